use Rattle.std.proofs.Common.{◌≡◌, ◌++◌, ◌∷◌, [], ◌∙◌, ◌+◌, ap, sym, List, ℕ, map, arith, ◌==◌}
use Rattle.std.specs.List.{flat_map}
use Rattle.std.proofs.lemmas.List.{map-append}
use Rattle.std.proofs.lemmas.List.Sums.{prefix_len-le-length}
use Rattle.elf_model.specs.declared.objects.Reloc.{Reloc}
use Rattle.elf_model.specs.Files.{from}
use Rattle.elf_model.specs.Canonical.{reloc_row}
use Rattle.elf_model.proofs.Lists.{from-append}
use Rattle.elf_model.proofs.Sorted.{in_from, all_from_first}
use Rattle.elf_write.specs.Writing.{reloc_table}
use Rattle.elf_write.proofs.Rows.{run_is, none_read, run_read, all_read}
use Rattle.elf_write.proofs.relocs.reloc_tables.Goals as goal

pub loop-section-init : goal.loop-section-init
loop-section-init c = record { rest = sym (all_from_first c.args.relocs.now); read = none_read c.args.relocs.now; tables = c.new-tables.ensures.items }

pub split_at-requires : goal.split_at-requires
split_at-requires c = omega (arith, c.run_length.ensures, prefix_len-le-length (λ (r : Reloc). r.section == c.loop-section.section) c.loop-section.rest.now)

pub loop-section-preserved : goal.loop-section-preserved
loop-section-preserved c =
    let i : ℕ = c.loop-section.section in
    let run = run_is i c.args.relocs.now c.loop-section.rest.now c.run_length.result c.requires.rising c.loop-section.invariant.rest c.run_length.ensures in
    let one : c.new.result ≡ reloc_table c.args.relocs.now i = c.new.ensures ∙ c.in_ok-reloc_rows.ensures.rows ∙ ap (flat_map reloc_row) (c.split_at.ensures.front ∙ run.0) in
    let first : 0 + i ≡ i = omega arith in
    record {
      rest = c.split_at.ensures.back ∙ run.1;
      read = run_read c.args.relocs.now c.loop-section.rest.now c.split_at.result.0.now c.split_at.result.1.now c.run_length.result c.loop-section.invariant.read (sym c.split_at.ensures.front) (sym c.split_at.ensures.back) c.in_ok-reloc_rows.ensures.fit;
      tables = c.in_ok-push.ensures.items ∙ ap (λ (l : List (List ℕ)). l ++ c.new.result ∷ []) c.loop-section.invariant.tables ∙ ap (λ (b : List ℕ). map (reloc_table c.args.relocs.now) (from 0 i) ++ b ∷ []) one
          ∙ sym (ap (map (reloc_table c.args.relocs.now)) (from-append 0 i 1 ∙ ap (λ (k : ℕ). from 0 i ++ k ∷ []) first) ∙ map-append (reloc_table c.args.relocs.now) (from 0 i) (i ∷ []));
    }

pub returns-clause-fit : goal.returns-clause-fit
returns-clause-fit c =
    let last : c.loop-section.section ≡ c.args.count = omega (arith, c.loop-section-test.false, c.loop-section.auto.section-end) in
    all_read c.args.relocs.now c.loop-section.rest.now c.args.count c.loop-section.invariant.read (c.loop-section.invariant.rest ∙ ap (λ (k : ℕ). in_from k c.args.relocs.now) last) c.requires.placed
