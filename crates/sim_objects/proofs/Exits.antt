-- The end of the whole call lies above all code of an image.
use Rattle.std.specs.Prelude.{◌≡◌, ℕ, ◌+◌, not, nat_le, Bool, false, cond, length, Option, Some, None}
use Rattle.std.proofs.Common.{arith, inl, inr, ap}
use Rattle.std.proofs.lemmas.Bool.{cases_Bool, and_parts, leb-true}
use Rattle.thumb_instr.specs.Rows.{is_wide}
use Rattle.thumb_table.specs.Parts.{CodeBytes}
use Rattle.thumb_table.specs.Schedules.{exit}
use Rattle.thumb_table.specs.Effects.{lies, half_of}
use Rattle.thumb_table.specs.Steps.{Fetched, fetch}
use Rattle.sim_images.proofs.LinksMeet.{room_of}
use Rattle.sim_objects.specs.Exits.{NothingAtExit}

-- nothing is fetched where no bytes lie
not_there : (code : CodeBytes) (a : ℕ) → lies code a 2 ≡ false → fetch code a ≡ None
not_there code a e = ap (λ (b : Bool). cond (not b) None (there)) e
  where
    there : Option Fetched
    there = cond (not (is_wide (half_of code a))) (Some (record { first = half_of code a; second = 0; width = 2 })) (cond (lies code a 4) (Some (record { first = half_of code a; second = half_of code (a + 2); width = 4 })) None)

pub nothing_at_exit : NothingAtExit
nothing_at_exit objects at image is =
    not_there image.code exit (elim (cases_Bool (lies image.code exit 2)) [
      | inl t ↦
          let room = room_of objects at is.can in
          let low = room.low in
          let fits = room.fits in
          let base = is.code_base in
          let size = is.code.size in
          let both = and_parts (nat_le image.code.base exit) (nat_le (exit + 2) (image.code.base + length image.code.bytes)) t in
          let high = leb-true (exit + 2) (image.code.base + length image.code.bytes) both.1 in
          absurd (omega (arith, low, fits, base, size, high))
      | inr f ↦ f
    ])
