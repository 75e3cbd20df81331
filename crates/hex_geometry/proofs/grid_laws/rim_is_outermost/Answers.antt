-- off the rim is inner, both ways
use Rattle.hex_geometry.proofs.Rim.{inner-off_rim, off_rim-inner}
use Rattle.hex_geometry.proofs.grid_laws.rim_is_outermost.Goals as goal

pub returns : goal.returns
returns c = λ width height p inside. (off_rim-inner width height p inside, inner-off_rim width height p)
