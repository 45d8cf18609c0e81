-- The law that a placing is the only one for its widths.
use Rattle.std.specs.Prelude.{◌≡◌, List, map}
use Rattle.thumb_encode.specs.declared.codes.Width.{Width}
use Rattle.seq_core.specs.declared.units.Unit.{Unit as SeqUnit}
use Rattle.flow_recover.specs.declared.flows.PoolWord.{PoolWord}
use Rattle.branch_layout.specs.Placings.{Stretch, Placing, IsPlacing}
use Rattle.branch_layout.specs.Given.{CanLay}

abbrev pub widths_of : Stretch → List Width
widths_of s = s.widths

-- whatever the widths are
abbrev pub PlacingsAreOne : Type 0
PlacingsAreOne = (units : List SeqUnit) (words : List PoolWord) (p q : Placing) → CanLay units words → IsPlacing units words p → IsPlacing units words q → map widths_of p.units ≡ map widths_of q.units → p ≡ q
