-- What is made of an object is within the limits of every object.
use Rattle.std.proofs.Common.{◌≤◌, ◌*◌, length, arith}
use Rattle.std.specs.Prelude.{IsTrue, ◌&&◌, nat_le}
use Rattle.std.proofs.Math.Nat.{mul-le-mul_left}
use Rattle.std.proofs.lemmas.Bool.{and_parts, and_from, leb-true, le-leb}
use Rattle.elf_model.specs.declared.refusals.TheConstants.Limit.{INPUT}
use Rattle.elf_model.specs.Objects.{ObjectParts, is_within, code_size}
use Rattle.unit_layouts.proofs.FewWords.{few_words}
use Rattle.sim_relation.specs.Accepted.{boundaries}
use Rattle.pair_parts.specs.Made.{MadeAreWithin}
use Rattle.pair_parts.proofs.CodeCount.{few_code}
use Rattle.pair_parts.proofs.Growth.{made_grow}
use Rattle.pair_parts.proofs.RelocCount.{few_relocs}
use Rattle.pair_parts.proofs.SymbolCount.{few_symbols}

-- the counts of an input
record HasFew (o : ObjectParts) : Type 0 where
  sections : length o.sections ≤ 256
  symbols : length o.symbols ≤ 16384
  relocs : length o.relocs ≤ 65536
  code : code_size o.sections ≤ 65536

input_has : (o : ObjectParts) → IsTrue (is_within o INPUT) → HasFew o
input_has o within =
    let all = and_parts (nat_le (length o.sections) 256 && nat_le (length o.symbols) 16384 && nat_le (length o.relocs) 65536) (nat_le (code_size o.sections) 65536) within in
    let three = and_parts (nat_le (length o.sections) 256 && nat_le (length o.symbols) 16384) (nat_le (length o.relocs) 65536) all.0 in
    let two = and_parts (nat_le (length o.sections) 256) (nat_le (length o.symbols) 16384) three.0 in
    record {
      sections = leb-true (length o.sections) 256 two.0;
      symbols = leb-true (length o.symbols) 16384 two.1;
      relocs = leb-true (length o.relocs) 65536 three.1;
      code = leb-true (code_size o.sections) 65536 all.1;
    }

pub made_within : MadeAreWithin
made_within o h f c K l objects accepted least most made =
    let input = input_has o objects.within in
    let flow = accepted.flow in
    let tables = made.form.tables in
    let points = flow.few in
    let words = few_words o f flow in
    let sections = tables.sections.count in
    let symbols = few_symbols o h f l flow made.can made.form in
    let relocs = few_relocs o f l made.form.lists flow made.can h (boundaries K) c made.units tables.relocs in
    let copies : length f.points * c ≤ length f.points * 4 = mul-le-mul_left (length f.points) most in
    let code = few_code o h c made.form.rows most tables.sections (made_grow o h f c K l objects flow least most made) in
    and_from _ _
    (and_from _ _ (and_from _ _ (le-leb (length h.sections) 1024 (omega arith)) (le-leb (length h.symbols) 262144 (omega arith))) (le-leb (length h.relocs) 524288 (omega arith)))
    (le-leb (code_size h.sections) 16777216 (omega arith))
