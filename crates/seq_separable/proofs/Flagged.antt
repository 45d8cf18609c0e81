-- MULS goes through a scratch register.
use Rattle.std.proofs.Common.{◌≡◌, ℕ, ◌<◌, ◌≤◌, ◌==◌, ◌||◌, Bool, true, false, [], ◌∷◌, refl, sym, subst, arith}
use Rattle.std.specs.Prelude.{map}
use Rattle.thumb_instr.specs.declared.refusals.ItPlace.TheVariants.{Outside}
use Rattle.thumb_instr.specs.declared.instructions.Instr.{Instr}
use Rattle.thumb_instr.specs.declared.instructions.Instr.TheVariants.{Mul}
use Rattle.thumb_instr.specs.Fields.{MulFields}
use Rattle.thumb_instr.specs.Formed.{NamesRegisters}
use Rattle.thumb_instr.specs.Sets.{reads_of, writes_of}
use Rattle.thumb_instr.specs.DataRows.{is_copy, names, is_rrx}
use Rattle.thumb_encode.specs.HasFull.{has_full}
use Rattle.seq_core.specs.declared.classes.Class.TheVariants as class
use Rattle.seq_core.specs.Accepted.{misplaces_stack}
use Rattle.seq_core.specs.Sequences.{Carries, Settles}
use Rattle.seq_core.specs.Groups.{always, done, only, moving, IsFree}
use Rattle.seq_core.specs.Bases.{FlaggedProductCarries}
use Rattle.seq_core.specs.Built.{as_steps}
use Rattle.seq_core.specs.Straight.{flagged}
use Rattle.seq_core.specs.Builders.{AreCoded, CanBuild, FullCodesAreRows, HasRow, loses}
use Rattle.seq_separable.proofs.Lost.{Works, either, one_lost}
use Rattle.seq_separable.proofs.Known.{Laws, differs, no_stack, small}

product_carries : Laws → FlaggedProductCarries → (i : MulFields) (q end : ℕ) → HasRow (Mul i) → i.s ≡ true → IsFree (Mul i) q →
    Carries Settles end always (done (Mul i)) (only q) (map done (flagged (Mul i) q))
unfolding reads_of writes_of
product_carries laws products i q end row s free =
    let names = (laws.formed Outside row.first row.second (Mul i) row.stands).registers in
    let n_small : i.n ≤ 14 = names.1 in
    let m_small : i.m ≤ 14 = names.2 in
    let reads = either (q == i.n) (q == i.m) free.unread in
    subst (λ (b : Bool). Carries Settles end always (done (Mul (record i { s = b }))) (only q) (map done (flagged (Mul i) q))) (sym s)
    (products i.d i.n i.m q end free.low (differs q i.d free.unwritten) (differs q i.n reads.0) (differs q i.m reads.1) (omega arith) (omega arith))

product_coded : FullCodesAreRows → (i : MulFields) (q copies : ℕ) → NamesRegisters (Mul i) → misplaces_stack (Mul i) ≡ false → q < 13 → AreCoded (as_steps copies (flagged (Mul i) q))
unfolding has_full is_copy names is_rrx
product_coded rows i q copies named apart low =
    let d = either (i.d == 13) ((i.n == 13) || (i.m == 13)) apart in
    let nm = either (i.n == 13) (i.m == 13) d.1 in
    let d_not : (i.d == 13) ≡ false = d.0 in
    let n_not : (i.n == 13) ≡ false = nm.0 in
    let m_not : (i.m == 13) ≡ false = nm.1 in
    let q_not : (q == 13) ≡ false = no_stack q low in (
      rows (Mul (record i { s = false; d = q })) (small q low, named.1, named.2) tt (rw (q_not, n_not, m_not) refl),
      (rows (moving true i.d q) (named.0, small q low) refl (rw (d_not, q_not) refl), tt),
    )

pub flagged_works : Laws → FlaggedProductCarries → (i : Instr) (q copies : ℕ) → CanBuild class.ThroughFlags i (q ∷ []) copies → Works class.ThroughFlags i copies (q ∷ [])
flagged_works laws products (Mul i) q copies can =
    let row = can.row in (
      laws.plain (Mul i) copies (flagged (Mul i) q) (only q) (loses (Mul i) (q ∷ [])) refl refl (refl, (refl, tt)) (one_lost (Mul i) q) (λ end. product_carries laws products i q end row can.of can.free.0),
      product_coded laws.rows i q copies (laws.formed Outside row.first row.second (Mul i) row.stands).registers (laws.apart Outside row.first row.second (Mul i) row.stands).1 can.free.0.low,
    )
flagged_works laws products i q copies can = let none = can.of in absurd cc
