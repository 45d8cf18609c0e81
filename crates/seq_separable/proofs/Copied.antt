-- What has its base loads from a copy of it.
use Rattle.std.proofs.Common.{◌≡◌, ℕ, ◌<◌, ◌≤◌, ◌==◌, ◌||◌, Bool, true, false, List, [], ◌∷◌, refl, subst}
use Rattle.std.specs.Prelude.{◌&&◌, not}
use Rattle.thumb_instr.specs.declared.refusals.ItPlace.TheVariants.{Outside}
use Rattle.thumb_instr.specs.declared.register_sets.RegSet.{RegSet}
use Rattle.thumb_instr.specs.declared.instructions.Instr.{Instr}
use Rattle.thumb_instr.specs.declared.instructions.Instr.TheVariants.{Pair, Multi}
use Rattle.thumb_instr.specs.Fields.{PairFields, MultiFields}
use Rattle.thumb_instr.specs.Operands.{has, is_list, is_pair_offset}
use Rattle.thumb_instr.specs.Sets.{moves_pair_base}
use Rattle.thumb_encode.specs.HasFull.{has_full}
use Rattle.thumb_table.specs.Effects.{registers}
use Rattle.seq_core.specs.declared.classes.Class.TheVariants as class
use Rattle.seq_core.specs.Accepted.{DecodesLoadSeveral}
use Rattle.seq_core.specs.Coded.{CopiesCoded, MovesCoded}
use Rattle.seq_core.specs.Decoded.{BaseCopyDecodes}
use Rattle.seq_core.specs.Groups.{moving, names_no_place, only}
use Rattle.seq_core.specs.Bases.{pair_loading}
use Rattle.seq_core.specs.Replaced.{base_copied, copy_loading}
use Rattle.seq_core.specs.Builders.{CanBuild, HasRow, loses}
use Rattle.seq_separable.proofs.Lost.{Works, either, one_lost}
use Rattle.seq_separable.proofs.Known.{Laws, both, no_stack, not_true, small}

pub record CopyLaws : Type 0 where
  pub copies : BaseCopyDecodes
  pub several : DecodesLoadSeveral
  pub moves : MovesCoded
  pub lists : CopiesCoded

copy_coded : CopyLaws → (n q : ℕ) → q < 13 → n ≤ 14 → HasRow (moving false q n)
copy_coded b n q low ln = let q_not : (q == 13) ≡ false = no_stack q low in b.moves q n (small q low) ln (rw q_not refl)

pair_row : Laws → (t u q imm : ℕ) (up : Bool) → t ≤ 14 → u ≤ 14 → q ≤ 14 → is_pair_offset imm ≡ true → (t == 13) ≡ false → (u == 13) ≡ false → (t == u) ≡ false → HasRow (pair_loading t u q up imm)
unfolding has_full
pair_row laws t u q imm up lt lu lq offset ts us tu = laws.rows (pair_loading t u q up imm) (lt, lu, lq) offset (rw (ts, us, tu) refl)

loaded_apart : (load b : Bool) → load ≡ true → not (load && b) ≡ true → b ≡ false
loaded_apart true b l e = not_true b e
loaded_apart false b l e = absurd cc

pair_works : Laws → CopyLaws → (i : PairFields) (q copies : ℕ) → CanBuild class.BaseCopy (Pair i) (q ∷ []) copies → Works class.BaseCopy (Pair i) copies (q ∷ [])
pair_works laws b i q copies can =
    let row = can.row in
    let formed = laws.formed Outside row.first row.second (Pair i) row.stands in
    let named = formed.registers in
    let apart = laws.apart Outside row.first row.second (Pair i) row.stands in
    let stack = either (i.t == 13) (i.u == 13) apart.1 in
    let loads = (both i.load (not (moves_pair_base i.index) && ((i.n == i.t) || (i.n == i.u))) can.of).0 in
    let tu : (i.t == i.u) ≡ false = loaded_apart i.load (i.t == i.u) loads (b.several Outside row.first row.second (Pair i) row.stands) in
    let free = can.free.0 in (
      laws.plain (Pair i) copies (base_copied (Pair i) q) (only q) (loses (Pair i) (q ∷ [])) refl refl (refl, (refl, tt)) (one_lost (Pair i) q)
          (λ end. b.copies Outside row.first row.second (Pair i) q end row.stands can.of free),
      (copy_coded b i.n q free.low named.2, (pair_row laws i.t i.u q i.imm i.up named.0 named.1 (small q free.low) formed.fields stack.0 stack.1 tu, tt)),
    )

copy_plain : (down : Bool) (q : ℕ) (list : RegSet) (rs : List ℕ) → names_no_place (copy_loading down q list rs) ≡ true
copy_plain down q list [] = refl
copy_plain down q list (t ∷ []) = refl
copy_plain down q list (t ∷ u ∷ rs) = refl

list_works : Laws → CopyLaws → (i : MultiFields) (q copies : ℕ) → CanBuild class.BaseCopy (Multi i) (q ∷ []) copies → Works class.BaseCopy (Multi i) copies (q ∷ [])
list_works laws b i q copies can =
    let row = can.row in
    let formed = laws.formed Outside row.first row.second (Multi i) row.stands in
    let load = both i.load (not i.back && (not i.pc && has i.list.0 i.n)) can.of in
    let stays = both (not i.back) (not i.pc && has i.list.0 i.n) load.1 in
    let plain : i.pc ≡ false = not_true i.pc (both (not i.pc) (has i.list.0 i.n) stays.1).0 in
    let list : is_list i.list.0 false ≡ true = subst (λ (pc : Bool). is_list i.list.0 pc ≡ true) plain formed.fields in
    let free = can.free.0 in (
      laws.plain (Multi i) copies (base_copied (Multi i) q) (only q) (loses (Multi i) (q ∷ [])) refl plain (refl, (copy_plain i.down q i.list (registers i.list.0), tt)) (one_lost (Multi i) q)
          (λ end. b.copies Outside row.first row.second (Multi i) q end row.stands can.of free),
      (copy_coded b i.n q free.low formed.registers, (b.lists i.down q i.list (small q free.low) list, tt)),
    )

pub copied_works : Laws → CopyLaws → (i : Instr) (q copies : ℕ) → CanBuild class.BaseCopy i (q ∷ []) copies → Works class.BaseCopy i copies (q ∷ [])
copied_works laws b (Pair i) q copies can = pair_works laws b i q copies can
copied_works laws b (Multi i) q copies can = list_works laws b i q copies can
copied_works laws b i q copies can = let none = can.of in absurd cc
