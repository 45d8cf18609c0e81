use Rattle.std.proofs.Common.{◌≡◌, ◌<◌, ◌^◌, ◌++◌, length, map}
use Rattle.std.specs.Prelude.{All}
use Rattle.std.specs.Fmt.{decimal}
use Rattle.std.specs.Str.{IsUtf8}
use Rattle.skip_machine.specs.Plans.{parts_of}
use Rattle.skip_machine.proofs.texts.numbers.Given as goal

abbrev pub invariant-parts : goal.invariant-parts
invariant-parts l = record {
  parts : parts_of l.fn.text ≡ map decimal l.read.items ++ parts_of l.rest;
  small : All (λ n. n < 2 ^ 63) l.read.items;
  text : IsUtf8 l.rest;
}

abbrev pub decreases-parts : goal.decreases-parts
decreases-parts l = length l.rest
