-- A text has one program or one fault, if each line says one thing or has one fault.
use Rattle.std.proofs.Common.{◌≡◌, ◌⊎◌, inl, inr, ℕ, List, [], ◌∷◌, ◌++◌, Option, Some, None, refl, sym, ap, ◌∙◌, subst}
use Rattle.std.proofs.lemmas.Option.{same_Some}
use Rattle.line_tokens.specs.TokenLines.{TokenLine, lines_with_tokens}
use Rattle.ant_asm.specs.declared.fault.AsmFault.{AsmFault}
use Rattle.ant_asm.specs.Program.{Items}
use Rattle.ant_asm.specs.Lines.{Line, Says}
use Rattle.ant_asm.specs.LineFaults.{spelling_fault}
use Rattle.ant_asm.specs.Standing.{Standing, below, items_of, nothing_yet, place_fault}
use Rattle.ant_asm.specs.Text.{IsAsmFault, IsAsmText, IsLineFault, Leads, last_fault}
use Rattle.ant_asm.specs.Text.IsLineFault.{OfSpelling, OfPlace}
use Rattle.ant_asm.specs.Text.IsAsmFault.{OfLine, OfWhole}

-- what is to be shown of lines
pub record LinesDecide : Type 0 where
  pub says : (line : TokenLine) → ((said : Line) × Says line.tokens said) ⊎ ((fault : AsmFault) × (spelling_fault line.number line.tokens ≡ Some fault))
  pub one : (tokens : List (List ℕ)) (a b : Line) → Says tokens a → Says tokens b → a ≡ b
  pub never : (line : TokenLine) (said : Line) (fault : AsmFault) → Says line.tokens said → spelling_fault line.number line.tokens ≡ Some fault → ⊥

module _ (decide : LinesDecide) where
  -- the lines lead to a standing, or one of them is at fault
  record Stops (standing : Standing) (lines : List TokenLine) : Type 0 where
    before : List TokenLine
    line : TokenLine
    after : List TokenLine
    are : lines ≡ before ++ line ∷ after
    last : Standing
    leads : Leads standing before last
    fault : AsmFault
    wrong : IsLineFault last line fault

  later : (standing : Standing) (line : TokenLine) (lines : List TokenLine) (said : Line) → Says line.tokens said → place_fault standing line.number said ≡ None → Stops (below standing line.number said) lines → Stops standing (line ∷ lines)
  later standing line lines said says good stops = record {
    before = line ∷ stops.before;
    line = stops.line;
    after = stops.after;
    are = ap (λ (l : List TokenLine). line ∷ l) stops.are;
    last = stops.last;
    leads = (said, says, good, stops.leads);
    fault = stops.fault;
    wrong = stops.wrong;
  }

  here : (standing : Standing) (line : TokenLine) (lines : List TokenLine) (fault : AsmFault) → IsLineFault standing line fault → Stops standing (line ∷ lines)
  here standing line lines fault wrong = record { before = []; line = line; after = lines; are = refl; last = standing; leads = refl; fault = fault; wrong = wrong }

  said_line : (standing : Standing) (line : TokenLine) (lines : List TokenLine) → ((s : Standing) → ((last : Standing) × Leads s lines last) ⊎ Stops s lines) → (said : Line) → Says line.tokens said → (o : Option AsmFault) → place_fault standing line.number said ≡ o →
      ((last : Standing) × Leads standing (line ∷ lines) last) ⊎ Stops standing (line ∷ lines)
  said_line standing line lines rest said says (Some fault) at = inr (here standing line lines fault (OfPlace said says at))
  said_line standing line lines rest said says None at = elim (rest (below standing line.number said)) [
    | inl leads ↦ inl (leads.0, (said, says, at, leads.1))
    | inr stops ↦ inr (later standing line lines said says at stops)
  ]

  reading : (standing : Standing) (lines : List TokenLine) → ((last : Standing) × Leads standing lines last) ⊎ Stops standing lines
  reading standing [] = inl (standing, refl)
  reading standing (line ∷ lines) = elim (decide.says line) [
    | inl said ↦ said_line standing line lines (λ s. reading s lines) said.0 said.1 (place_fault standing line.number said.0) refl
    | inr fault ↦ inr (here standing line lines fault.0 (OfSpelling fault.1))
  ]

  -- every text has one or the other
  whole : (text : List ℕ) (last : Standing) → Leads nothing_yet (lines_with_tokens text) last → (o : Option AsmFault) → last_fault last.begun last ≡ o → ((main : Items) × IsAsmText text main) ⊎ ((fault : AsmFault) × IsAsmFault text fault)
  whole text last leads None at = inl (items_of last.main, record { standing = last; leads = leads; good = at; is = refl })
  whole text last leads (Some fault) at = inr (fault, OfWhole last leads at)

  pub some : (text : List ℕ) → ((main : Items) × IsAsmText text main) ⊎ ((fault : AsmFault) × IsAsmFault text fault)
  some text = elim (reading nothing_yet (lines_with_tokens text)) [
    | inl leads ↦ whole text leads.0 leads.1 (last_fault leads.0.begun leads.0) refl
    | inr stops ↦ inr (stops.fault, OfLine (record { before = stops.before; line = stops.line; after = stops.after; lines = stops.are; standing = stops.last; leads = stops.leads; wrong = stops.wrong }))
  ]

  -- lines lead to one standing
  leads_one : (standing : Standing) (lines : List TokenLine) (a b : Standing) → Leads standing lines a → Leads standing lines b → a ≡ b
  leads_one standing [] a b first second = sym first ∙ second
  leads_one standing (line ∷ lines) a b first second =
      let same : first.0 ≡ second.0 = decide.one line.tokens first.0 second.0 first.1 second.1 in
      leads_one (below standing line.number second.0) lines a b (subst (λ (said : Line). Leads (below standing line.number said) lines a) same first.3) second.3

  -- so a text has one program
  pub one_program : (text : List ℕ) (a b : Items) → IsAsmText text a → IsAsmText text b → a ≡ b
  one_program text a b first second =
      first.is ∙ ap (λ (s : Standing). items_of s.main) (leads_one nothing_yet (lines_with_tokens text) first.standing second.standing first.leads second.leads) ∙ sym second.is

  -- a line that says something without fault isn't at fault
  no_fault : (standing : Standing) (line : TokenLine) (said : Line) (fault : AsmFault) → Says line.tokens said → place_fault standing line.number said ≡ None → IsLineFault standing line fault → ⊥
  no_fault standing line said fault says good (OfSpelling wrong) = decide.never line said fault says wrong
  no_fault standing line said fault says good (OfPlace other says_other wrong) =
      let same : other ≡ said = decide.one line.tokens other said says_other says in
      let both : None ≡ Some fault = sym good ∙ ap (place_fault standing line.number) (sym same) ∙ wrong in absurd (cc)

  -- a line has one fault
  fault_once : (standing : Standing) (line : TokenLine) (a b : AsmFault) → IsLineFault standing line a → IsLineFault standing line b → a ≡ b
  fault_once standing line a b (OfSpelling first) (OfSpelling second) = same_Some a b (sym first ∙ second)
  fault_once standing line a b (OfSpelling first) (OfPlace said says second) = absurd (decide.never line said a says first)
  fault_once standing line a b (OfPlace said says first) (OfSpelling second) = absurd (decide.never line said b says second)
  fault_once standing line a b (OfPlace said says first) (OfPlace other says_other second) =
      let same : said ≡ other = decide.one line.tokens said other says says_other in
      same_Some a b (sym first ∙ ap (place_fault standing line.number) same ∙ second)

  -- lines that lead on have no line at fault among them
  not_stopped : (standing : Standing) (before : List TokenLine) (line : TokenLine) (after : List TokenLine) (last stop : Standing) (fault : AsmFault) →
      Leads standing (before ++ line ∷ after) last → Leads standing before stop → IsLineFault stop line fault → ⊥
  not_stopped standing [] line after last stop fault leads same wrong = no_fault standing line leads.0 fault leads.1 leads.2 (subst (λ (s : Standing). IsLineFault s line fault) (sym same) wrong)
  not_stopped standing (first ∷ before) line after last stop fault leads stops wrong =
      let same : stops.0 ≡ leads.0 = decide.one first.tokens stops.0 leads.0 stops.1 leads.1 in
      not_stopped (below standing first.number leads.0) before line after last stop fault leads.3 (subst (λ (said : Line). Leads (below standing first.number said) before stop) same stops.3) wrong

  -- never both
  pub never_both : (text : List ℕ) (main : Items) (fault : AsmFault) → IsAsmText text main → IsAsmFault text fault → ⊥
  never_both text main fault is (OfLine stops) =
      not_stopped nothing_yet stops.before stops.line stops.after is.standing stops.standing fault (subst (λ (l : List TokenLine). Leads nothing_yet l is.standing) stops.lines is.leads) stops.leads stops.wrong
  never_both text main fault is (OfWhole last leads wrong) =
      let same : is.standing ≡ last = leads_one nothing_yet (lines_with_tokens text) is.standing last is.leads leads in
      let both : None ≡ Some fault = sym is.good ∙ ap (λ (s : Standing). last_fault s.begun s) same ∙ wrong in absurd (cc)

  -- the first line at fault is one
  stops_one : (standing : Standing) (before : List TokenLine) (line : TokenLine) (after : List TokenLine) (others : List TokenLine) (other : TokenLine) (rest : List TokenLine) (last stop : Standing) (a b : AsmFault) →
      before ++ line ∷ after ≡ others ++ other ∷ rest → Leads standing before last → Leads standing others stop → IsLineFault last line a → IsLineFault stop other b → a ≡ b
  stops_one standing [] line after [] other rest last stop a b same first second wrong worse =
      let one : line ≡ other = cc in
      fault_once standing other a b (subst (λ (l : TokenLine). IsLineFault standing l a) one (subst (λ (s : Standing). IsLineFault s line a) (sym first) wrong)) (subst (λ (s : Standing). IsLineFault s other b) (sym second) worse)
  stops_one standing [] line after (head ∷ others) other rest last stop a b same first second wrong worse =
      let one : line ≡ head = cc in
      absurd (no_fault standing head second.0 a second.1 second.2 (subst (λ (l : TokenLine). IsLineFault standing l a) one (subst (λ (s : Standing). IsLineFault s line a) (sym first) wrong)))
  stops_one standing (head ∷ before) line after [] other rest last stop a b same first second wrong worse =
      let one : head ≡ other = cc in
      absurd (no_fault standing head first.0 b first.1 first.2 (subst (λ (l : TokenLine). IsLineFault standing l b) (sym one) (subst (λ (s : Standing). IsLineFault s other b) (sym second) worse)))
  stops_one standing (head ∷ before) line after (top ∷ others) other rest last stop a b same first second wrong worse =
      let one : head ≡ top = cc in
      let tails : before ++ line ∷ after ≡ others ++ other ∷ rest = cc in
      let again : (said : Line) × Says head.tokens said × (place_fault standing head.number said ≡ None) × Leads (below standing head.number said) others stop =
      subst (λ (l : TokenLine). (said : Line) × Says l.tokens said × (place_fault standing l.number said ≡ None) × Leads (below standing l.number said) others stop) (sym one) second in
      let says : again.0 ≡ first.0 = decide.one head.tokens again.0 first.0 again.1 first.1 in
      stops_one (below standing head.number first.0) before line after others other rest last stop a b tails first.3 (subst (λ (said : Line). Leads (below standing head.number said) others stop) says again.3) wrong worse

  -- so a text has one fault
  pub one_fault : (text : List ℕ) (a b : AsmFault) → IsAsmFault text a → IsAsmFault text b → a ≡ b
  one_fault text a b (OfLine first) (OfLine second) =
      stops_one nothing_yet first.before first.line first.after second.before second.line second.after first.standing second.standing a b (sym first.lines ∙ second.lines) first.leads second.leads first.wrong second.wrong
  one_fault text a b (OfLine stops) (OfWhole last leads at) =
      absurd (not_stopped nothing_yet stops.before stops.line stops.after last stops.standing a (subst (λ (l : List TokenLine). Leads nothing_yet l last) stops.lines leads) stops.leads stops.wrong)
  one_fault text a b (OfWhole last leads at) (OfLine stops) =
      absurd (not_stopped nothing_yet stops.before stops.line stops.after last stops.standing b (subst (λ (l : List TokenLine). Leads nothing_yet l last) stops.lines leads) stops.leads stops.wrong)
  one_fault text a b (OfWhole last leads at) (OfWhole other others there) =
      let same : last ≡ other = leads_one nothing_yet (lines_with_tokens text) last other leads others in
      same_Some a b (sym at ∙ ap (λ (s : Standing). last_fault s.begun s) same ∙ there)
