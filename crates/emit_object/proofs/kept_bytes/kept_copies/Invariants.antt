use Rattle.std.proofs.Common.{◌≡◌, ◌++◌, ℕ, Vec, Global, drop, map}
use Rattle.emit_object.specs.KeptBytes.{kept_of}
use Rattle.emit_object.proofs.kept_bytes.kept_copies.Given as goal

-- with those of the sections to come they are all
abbrev pub invariant-loop-s : goal.invariant-loop-s
invariant-loop-s l = map (λ (v : Vec ℕ Global). v.items) l.all.items ++ map kept_of (drop l.s-index l.o.sections) ≡ map kept_of l.o.sections
