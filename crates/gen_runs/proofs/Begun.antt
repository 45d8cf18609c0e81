-- Where the call starts, and that it returns.
use Rattle.std.proofs.Common.{◌≡◌, ℕ, ◌+◌, ◌-◌, ◌*◌, false, List, [], ◌∷◌, length, replicate, inl, refl, sym, ◌∙◌, subst, arith}
use Rattle.std.proofs.lemmas.List.{length-replicate}
use Rattle.mark_word.specs.Words.{Word, Cell, bare}
use Rattle.thumb_table.specs.Parts.{CodeBytes, Image}
use Rattle.thumb_table.specs.States.{Core, State, at}
use Rattle.thumb_table.specs.Schedules.{exit, Returns, OrdinaryRun}
use Rattle.thumb_table.specs.Calls.{start}
use Rattle.gen_flow.specs.GeneratedCode.{IsCount}
use Rattle.gen_image.specs.GeneratedImages.{IsGeneratedImage}
use Rattle.gen_runs.specs.GeneratedRuns.{ReturnsOrdinarily, steps_of}
use Rattle.gen_runs.proofs.Walking.{none, walk_returns}
use Rattle.gen_runs.proofs.Standing.{Numbers, core}
use Rattle.gen_runs.proofs.Framing.{IsLink}
use Rattle.gen_runs.proofs.Calling.{link_of}
use Rattle.gen_runs.proofs.Descending.{Fits, descends}

abbrev first_numbers : ℕ → Numbers
first_numbers argument = record { r0 = argument; r1 = 0; r2 = 0; n = false; z = false; c = false; v = false }

-- the address that the call returns to
abbrev last_link : Word
last_link = link_of 0x7FFFFFFF

last_is_link : (code : CodeBytes) → IsLink code last_link
last_is_link code = record { odd = refl; small = omega arith; ordinary = ((0x7FFFFFFF, refl), inl refl) }

-- The size of the stack is a variable here, so that no step writes it out.
started : (image : Image) (size argument : ℕ) → image.memory.base ≡ 557056 → image.memory.cells ≡ []
    → start image size 0x8001 (argument ∷ []) ≡ at 0x8000 (core (first_numbers argument) (557056 + size) last_link (replicate size (bare 0)))
started image size argument base none = rw (base, none, length-replicate size (bare 0)) refl

record ReturnsFrom (code : CodeBytes) (n : ℕ) (s : State) : Type 0 where
  ended : State
  returns : Returns code none n 0 s ended
  ordinary : OrdinaryRun code none n 0 s

returns_from : (seed count argument size : ℕ) (image : Image) → IsCount count → IsGeneratedImage seed count image → size ≡ 65536
    → ReturnsFrom image.code (6 * count - 1) (start image size 0x8001 (argument ∷ []))
returns_from seed count argument size image few known is =
    let low = few.low in
    let high = few.high in
    let n : ℕ = 6 * (count - 1) + 5 in
    let cells : List Cell = replicate size (bare 0) in
    let full : length cells ≡ size = length-replicate size (bare 0) in
    let fits : Fits (count - 1 + 1) (557056 + size) cells = record { aligned = omega arith; enough = omega arith; high = omega arith; count = full ∙ is } in
    let e = descends seed count image few known (count - 1) 0 0x8000 (first_numbers argument) (557056 + size) last_link cells (omega arith) refl fits (last_is_link image.code) in
    let end : Core = core e.numbers (557056 + size) e.link e.stack in
    let r = walk_returns image.code n (at 0x8000 (core (first_numbers argument) (557056 + size) last_link cells)) end (omega arith) e.walk in
    let steps : n ≡ 6 * count - 1 = omega arith in
    let there : ReturnsFrom image.code n (at 0x8000 (core (first_numbers argument) (557056 + size) last_link cells)) = record { ended = at exit end; returns = r.0; ordinary = r.1 } in
    subst (λ m. ReturnsFrom image.code m (start image size 0x8001 (argument ∷ []))) steps
    (subst (λ s. ReturnsFrom image.code n s) (sym (started image size argument known.base known.cells)) there)

pub call_returns : (seed count argument : ℕ) (image : Image) → IsCount count → IsGeneratedImage seed count image → ReturnsOrdinarily image argument (steps_of count)
call_returns seed count argument image few known =
    let r = returns_from seed count argument 65536 image few known refl in
    record { ended = r.ended; returns = r.returns; ordinary = r.ordinary }
