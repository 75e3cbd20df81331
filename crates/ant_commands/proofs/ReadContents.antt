-- What files were read as: their contents are those of one value.
use Rattle.std.proofs.Common.{◌≡◌, ℕ, true, false, List, [], ◌∷◌, ◌++◌, map, refl, sym, ap, ◌∙◌, subst}
use Rattle.ant_asm.specs.Source.{ReadSource}
use Rattle.ant_base.specs.Fetched.{Fetched}
use Rattle.brain_read.specs.declared.instr.Instr.{Instr}
use Rattle.break_view.specs.declared.breaks.Break.{Break}
use Rattle.cell_world.specs.Grid.{Grid}
use Rattle.match_save.specs.Saved.{SavedValue}
use Rattle.ant_commands.specs.Files.{AreAccepted, File, FileContent, IsAccepted}
use Rattle.ant_commands.specs.Files.FileContent.{BrainContent, BreakContent, WorldContent, LabelledContent, SourceContent, SaveContent}
use Rattle.ant_commands.specs.Outputs.{ReadCup, ReadGame, ReadPair, ReadProgram, ReadView, Tells, brain_contents, brain_file, break_file, roster_contents, cup_files, game_contents, game_files, is_text_of, labelled_file, no_contents, pair_contents, program_contents, save_contents, save_file, source_contents, view_contents, world_contents, world_file}

-- accepted files are read as one value
pub record IsReading {A : Type 0} (files : List File) (contents_of : A → List FileContent) : Type 0 where
  pub one : (a b : A) → contents_of a ≡ contents_of b → a ≡ b
  pub reads : (fetches : List Fetched) (contents : List FileContent) → AreAccepted files fetches contents → (value : A) × (contents ≡ contents_of value)

-- the first of some files, and the others
record First (file : File) (files : List File) (contents : List FileContent) : Type 0 where
  content : FileContent
  more : List FileContent
  whole : contents ≡ content ∷ more
  fetch : Fetched
  first : IsAccepted file fetch content
  fetches : List Fetched
  others : AreAccepted files fetches more

first : (file : File) (files : List File) (fetches : List Fetched) (contents : List FileContent) → AreAccepted (file ∷ files) fetches contents → First file files contents
first file files [] contents are = absurd are
first file files (fetch ∷ fetches) [] are = absurd are
first file files (fetch ∷ fetches) (content ∷ more) are = record { content = content; more = more; whole = refl; fetch = fetch; first = are.0; fetches = fetches; others = are.1 }

-- the content of a file of each kind
world-read : (name : List ℕ) (fetch : Fetched) (content : FileContent) → IsAccepted (world_file name) fetch content → (grid : Grid) × (content ≡ WorldContent grid)
world-read name fetch (WorldContent grid) got = (grid, refl)
world-read name fetch content got = absurd got.reads

brain-read : (name : List ℕ) (fetch : Fetched) (content : FileContent) → IsAccepted (brain_file name) fetch content → (list : List Instr) × (content ≡ BrainContent list)
brain-read name fetch (BrainContent list) got = (list, refl)
brain-read name fetch content got = absurd got.reads

breaks-read : (name : List ℕ) (fetch : Fetched) (content : FileContent) → IsAccepted (break_file name) fetch content → (items : List Break) × (content ≡ BreakContent items)
breaks-read name fetch (BreakContent items) got = (items, refl)
breaks-read name fetch content got = absurd got.reads

program-read : (name : List ℕ) (fetch : Fetched) (content : FileContent) → IsAccepted (labelled_file false name) fetch content
    → (program : ReadProgram) × (content ≡ LabelledContent program.brain program.places)
program-read name fetch (LabelledContent brain places) got = (record { brain = brain; places = places }, refl)
program-read name fetch content got = absurd got.reads

source-read : (name : List ℕ) (fetch : Fetched) (content : FileContent) → IsAccepted (labelled_file true name) fetch content → (source : ReadSource) × (content ≡ SourceContent source)
source-read name fetch (SourceContent source) got = (source, refl)
source-read name fetch content got = absurd got.reads

save-read : (name : List ℕ) (rounds : ℕ) (fetch : Fetched) (content : FileContent) → IsAccepted (save_file name rounds) fetch content → (saved : SavedValue) × (content ≡ SaveContent saved)
save-read name rounds fetch (SaveContent saved) got = (saved, refl)
save-read name rounds fetch content got = absurd got.reads

-- one file
alone : (file : File) (contents : List FileContent) (other : FileContent) (it : First file [] contents) → it.content ≡ other → contents ≡ other ∷ []
alone file contents other it same = it.whole ∙ ap (λ (c : FileContent). c ∷ it.more) same ∙ ap (λ (more : List FileContent). other ∷ more) it.others.1

pub read_none : IsReading [] no_contents
read_none = record { one = λ a b same. refl; reads = λ fetches contents are. (tt, are.1) }

pub read_world : (name : List ℕ) → IsReading (world_file name ∷ []) world_contents
read_world name = record {
  one = λ a b same. cc;
  reads = λ fetches contents are.
      let it = first (world_file name) [] fetches contents are in
      let grid = world-read name it.fetch it.content it.first in
      (grid.0, alone (world_file name) contents (WorldContent grid.0) it grid.1);
}

pub read_brain : (name : List ℕ) → IsReading (brain_file name ∷ []) brain_contents
read_brain name = record {
  one = λ a b same. cc;
  reads = λ fetches contents are.
      let it = first (brain_file name) [] fetches contents are in
      let list = brain-read name it.fetch it.content it.first in
      (list.0, alone (brain_file name) contents (BrainContent list.0) it list.1);
}

same_pair : (a b : ReadPair) → a.first ≡ b.first → a.second ≡ b.second → a ≡ b
same_pair a b firsts seconds = λ i. record { first = firsts i; second = seconds i }

pub read_pair : (one two : List ℕ) → IsReading (brain_file one ∷ brain_file two ∷ []) pair_contents
read_pair one two = record {
  one = λ a b same. (let firsts : a.first ≡ b.first = cc in let seconds : a.second ≡ b.second = cc in same_pair a b firsts seconds);
  reads = λ fetches contents are.
      let a = first (brain_file one) (brain_file two ∷ []) fetches contents are in
      let b = first (brain_file two) [] a.fetches a.more a.others in
      let x = brain-read one a.fetch a.content a.first in
      let y = brain-read two b.fetch b.content b.first in (
        record { first = x.0; second = y.0 },
        a.whole ∙ ap (λ (c : FileContent). c ∷ a.more) x.1
            ∙ ap (λ (more : List FileContent). BrainContent x.0 ∷ more) (alone (brain_file two) a.more (BrainContent y.0) b y.1),
      );
}

same_program : (a b : ReadProgram) → a.brain ≡ b.brain → a.places ≡ b.places → a ≡ b
same_program a b brains places = λ i. record { brain = brains i; places = places i }

pub read_program : (name : List ℕ) → IsReading (labelled_file false name ∷ []) program_contents
read_program name = record {
  one = λ a b same. same_program a b (cc) (cc);
  reads = λ fetches contents are.
      let it = first (labelled_file false name) [] fetches contents are in
      let program = program-read name it.fetch it.content it.first in
      (program.0, alone (labelled_file false name) contents (LabelledContent program.0.brain program.0.places) it program.1);
}

pub read_source : (name : List ℕ) → IsReading (labelled_file true name ∷ []) source_contents
read_source name = record {
  one = λ a b same. cc;
  reads = λ fetches contents are.
      let it = first (labelled_file true name) [] fetches contents are in
      let source = source-read name it.fetch it.content it.first in
      (source.0, alone (labelled_file true name) contents (SourceContent source.0) it source.1);
}

pub read_save : (name : List ℕ) (rounds : ℕ) → IsReading (save_file name rounds ∷ []) save_contents
read_save name rounds = record {
  one = λ a b same. cc;
  reads = λ fetches contents are.
      let it = first (save_file name rounds) [] fetches contents are in
      let saved = save-read name rounds it.fetch it.content it.first in
      (saved.0, alone (save_file name rounds) contents (SaveContent saved.0) it saved.1);
}

-- a game's files, and others after them
record GameFirst (world red black : List ℕ) (files : List File) (contents : List FileContent) : Type 0 where
  game : ReadGame
  more : List FileContent
  whole : contents ≡ game_contents game ++ more
  fetches : List Fetched
  others : AreAccepted files fetches more

game-first : (world red black : List ℕ) (files : List File) (fetches : List Fetched) (contents : List FileContent) → AreAccepted (game_files world red black ++ files) fetches contents
    → GameFirst world red black files contents
game-first world red black files fetches contents are =
    let a = first (world_file world) (brain_file red ∷ brain_file black ∷ files) fetches contents are in
    let b = first (brain_file red) (brain_file black ∷ files) a.fetches a.more a.others in
    let c = first (brain_file black) files b.fetches b.more b.others in
    let grid = world-read world a.fetch a.content a.first in
    let one = brain-read red b.fetch b.content b.first in
    let two = brain-read black c.fetch c.content c.first in
    record {
      game = record { world = grid.0; red = one.0; black = two.0 };
      more = c.more;
      whole = a.whole ∙ ap (λ (x : FileContent). x ∷ a.more) grid.1
          ∙ ap (λ (more : List FileContent). WorldContent grid.0 ∷ more) (b.whole ∙ ap (λ (x : FileContent). x ∷ b.more) one.1
          ∙ ap (λ (more : List FileContent). BrainContent one.0 ∷ more) (c.whole ∙ ap (λ (x : FileContent). x ∷ c.more) two.1));
      fetches = c.fetches;
      others = c.others;
    }

same_game : (a b : ReadGame) → a.world ≡ b.world → a.red ≡ b.red → a.black ≡ b.black → a ≡ b
same_game a b worlds reds blacks = λ i. record { world = worlds i; red = reds i; black = blacks i }

pub read_game : (world red black : List ℕ) → IsReading (game_files world red black) game_contents
read_game world red black = record {
  one = λ a b same. same_game a b (cc) (cc) (cc);
  reads = λ fetches contents are.
      let it = game-first world red black [] fetches contents are in
      (it.game, it.whole ∙ ap (λ (more : List FileContent). game_contents it.game ++ more) it.others.1);
}

same_view : (a b : ReadView) → a.game ≡ b.game → a.breaks ≡ b.breaks → a ≡ b
same_view a b games breaks = λ i. record { game = games i; breaks = breaks i }

pub read_view : (world red black breaks : List ℕ) → IsReading (game_files world red black ++ break_file breaks ∷ []) view_contents
read_view world red black breaks = record {
  one = λ a b same. same_view a b (same_game a.game b.game (cc) (cc) (cc)) (cc);
  reads = λ fetches contents are.
      let it = game-first world red black (break_file breaks ∷ []) fetches contents are in
      let last = first (break_file breaks) [] it.fetches it.more it.others in
      let items = breaks-read breaks last.fetch last.content last.first in
      (record { game = it.game; breaks = items.0 }, it.whole ∙ ap (λ (more : List FileContent). game_contents it.game ++ more) (alone (break_file breaks) it.more (BreakContent items.0) last items.1));
}

-- contents are of one list of worlds and one of players
players_same : (a b : List (List Instr)) → map BrainContent a ≡ map BrainContent b → a ≡ b
players_same [] [] same = refl
players_same [] (y ∷ b) same = absurd (cc)
players_same (x ∷ a) [] same = absurd (cc)
players_same (x ∷ a) (y ∷ b) same =
    let heads : x ≡ y = cc in
    let tails : map BrainContent a ≡ map BrainContent b = cc in
    ap (λ z. z ∷ a) heads ∙ ap (λ l. y ∷ l) (players_same a b tails)

lists_same : (v w : List Grid) (a b : List (List Instr)) → map WorldContent v ++ map BrainContent a ≡ map WorldContent w ++ map BrainContent b → (v ≡ w) × (a ≡ b)
lists_same [] [] a b same = (refl, players_same a b same)
lists_same [] (y ∷ w) [] b same = absurd (cc)
lists_same [] (y ∷ w) (x ∷ a) b same = absurd (cc)
lists_same (x ∷ v) [] a [] same = absurd (cc)
lists_same (x ∷ v) [] a (y ∷ b) same = absurd (cc)
lists_same (x ∷ v) (y ∷ w) a b same =
    let heads : x ≡ y = cc in
    let tails : map WorldContent v ++ map BrainContent a ≡ map WorldContent w ++ map BrainContent b = cc in
    let rest = lists_same v w a b tails in
    (ap (λ z. z ∷ v) heads ∙ ap (λ l. y ∷ l) rest.0, rest.1)

same_cup : (a b : ReadCup) → (a.worlds ≡ b.worlds) × (a.players ≡ b.players) → a ≡ b
same_cup a b same = λ i. record { worlds = same.0 i; players = same.1 i }

players-read : (names : List (List ℕ)) (fetches : List Fetched) (contents : List FileContent) → AreAccepted (map brain_file names) fetches contents → (players : List (List Instr)) × (contents ≡ map BrainContent players)
players-read [] fetches contents are = ([], are.1)
players-read (name ∷ names) fetches contents are =
    let it = first (brain_file name) (map brain_file names) fetches contents are in
    let list = brain-read name it.fetch it.content it.first in
    let rest = players-read names it.fetches it.more it.others in
    (list.0 ∷ rest.0, it.whole ∙ ap (λ (c : FileContent). c ∷ it.more) list.1 ∙ ap (λ (more : List FileContent). BrainContent list.0 ∷ more) rest.1)

cup-read : (worlds names : List (List ℕ)) (fetches : List Fetched) (contents : List FileContent) → AreAccepted (cup_files worlds names) fetches contents
    → (cup : ReadCup) × (contents ≡ roster_contents cup)
cup-read [] names fetches contents are = (let read = players-read names fetches contents are in (record { worlds = []; players = read.0 }, read.1))
cup-read (world ∷ worlds) names fetches contents are =
    let it = first (world_file world) (cup_files worlds names) fetches contents are in
    let grid = world-read world it.fetch it.content it.first in
    let rest = cup-read worlds names it.fetches it.more it.others in
    (record { worlds = grid.0 ∷ rest.0.worlds; players = rest.0.players }, it.whole ∙ ap (λ (c : FileContent). c ∷ it.more) grid.1 ∙ ap (λ (more : List FileContent). WorldContent grid.0 ∷ more) rest.1)

pub read_cup : (worlds names : List (List ℕ)) → IsReading (cup_files worlds names) roster_contents
read_cup worlds names = record {
  one = λ a b same. same_cup a b (lists_same a.worlds b.worlds a.players b.players same);
  reads = cup-read worlds names;
}

module _ {A : Type 0} {files : List File} {contents_of : A → List FileContent} (reading : IsReading files contents_of) where
  -- two texts of the same contents are texts of one value
  pub one_told : {IsText : A → List ℕ → Type 0} (contents : List FileContent) (text other : List ℕ) → ((value : A) → IsText value text → IsText value other → text ≡ other)
      → Tells contents_of IsText contents text → Tells contents_of IsText contents other → text ≡ other
  one_told {IsText = IsText} contents text other one a b =
      one a.value a.told (subst (λ (value : A). IsText value other) (reading.one b.value a.value (sym b.read ∙ a.read)) b.told)

  -- so if the text is a function of the value, there is one text
  pub one_text_of : (text_of : A → List ℕ) (contents : List FileContent) (text other : List ℕ) → Tells contents_of (is_text_of text_of) contents text → Tells contents_of (is_text_of text_of) contents other → text ≡ other
  one_text_of text_of contents text other a b = one_told contents text other (λ value x y. x ∙ sym y) a b

  -- if each value has a text, accepted files have one
  pub has_told : {IsText : A → List ℕ → Type 0} (fetches : List Fetched) (contents : List FileContent) → AreAccepted files fetches contents
      → ((value : A) → AreAccepted files fetches (contents_of value) → (text : List ℕ) × IsText value text) → (text : List ℕ) × Tells contents_of IsText contents text
  has_told fetches contents are has =
      let read = reading.reads fetches contents are in
      let text = has read.0 (subst (AreAccepted files fetches) read.1 are) in
      (text.0, record { value = read.0; read = read.1; told = text.1 })

  pub has_text_of : (text_of : A → List ℕ) (fetches : List Fetched) (contents : List FileContent) → AreAccepted files fetches contents → (text : List ℕ) × Tells contents_of (is_text_of text_of) contents text
  has_text_of text_of fetches contents are = has_told fetches contents are (λ value accepted. (text_of value, refl))
