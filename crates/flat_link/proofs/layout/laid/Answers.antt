use Rattle.std.proofs.Common.{◌≡◌, ◌+◌, List, map, Option, None, sym, ap, ◌∙◌, arith, rules}
use Rattle.std.specs.Prelude.{true, option_map}
use Rattle.std.specs.BTreeMap.{get}
use Rattle.std.specs.Option.{option_or}
use Rattle.elf_model.specs.Objects.{is_code, is_data}
use Rattle.code_ranges.specs.Spans.{place_cmp}
use Rattle.thumb_table.specs.Layouts.{Placed, placed, all_chosen, code_parts, data_parts, part_of}
use Rattle.flat_link.specs.declared.lots.Lot.{Lot}
use Rattle.flat_link.specs.declared.sorts.Sort.TheVariants.{Code, Data}
use Rattle.flat_link.specs.Lots.{placed_of}
use Rattle.flat_link.specs.Placing.{alignment_of, can_fit}
use Rattle.flat_link.proofs.EndFacts.{end_grows, good_lots, fits}
use Rattle.flat_link.proofs.LayoutFacts.{sound_lots, fit_ends, part_both}
use Rattle.flat_link.proofs.layout.laid.Goals as goal

pub placed-requires-clause-sound : goal.placed-requires-clause-sound
placed-requires-clause-sound c = sound_lots is_code c.args.objects.now c.args.code_lots.now c.requires.objects c.requires.code

pub placed-requires-clause-low : goal.placed-requires-clause-low
placed-requires-clause-low c =
    let at = c.args.at.now in
    let f = fit_ends (map placed_of c.args.code_lots.now) (map placed_of c.args.data_lots.now) at c.requires.fits in
    let g = end_grows (alignment_of Data) (at.base + at.room) (map placed_of c.args.data_lots.now)
    (good_lots Data c.args.data_lots.now (sound_lots is_data c.args.objects.now c.args.data_lots.now c.requires.objects c.requires.sound)) in
    omega (arith, f.0, f.1, g)

pub placed-requires-2-clause-sound : goal.placed-requires-2-clause-sound
placed-requires-2-clause-sound c = sound_lots is_data c.args.objects.now c.args.data_lots.now c.requires.objects c.requires.sound

pub returns-clause-laid : goal.returns-clause-laid
returns-clause-laid c =
    let at = c.args.at.now in
    let objects = c.args.objects.now in
    let code : map placed_of c.in_ok-code.code.items ≡ code_parts objects at = c.in_ok-code.ensures ∙ ap (placed (alignment_of Code) at.base) c.requires.code in
    let memory : map placed_of c.in_ok-data.data.items ≡ data_parts objects at = c.in_ok-data.ensures ∙ ap (placed (alignment_of Data) (at.base + at.room)) c.requires.sound in
    let fit : can_fit (all_chosen is_code 0 objects) (all_chosen is_data 0 objects) at ≡ true =
    sym (ap (λ (l : List Placed). can_fit l (map placed_of c.args.data_lots.now) at) c.requires.code ∙ ap (λ (l : List Placed). can_fit (all_chosen is_code 0 objects) l at) c.requires.sound) ∙ c.requires.fits in
    record {
      placement = c.requires.placement;
      few = c.requires.few;
      within = c.requires.within;
      sound = c.requires.objects;
      fits = fits objects at c.requires.objects fit;
      code = code;
      memory = memory;
      table = λ i j.
          let none : get place_cmp c.new-table.result (i, j) ≡ None = search rules in
          part_both i j (option_map placed_of (get place_cmp c.note_lots-2.new.table (i, j))) (option_map placed_of (get place_cmp c.note_lots.new.table (i, j)))
          (map placed_of c.deref.result.now) (map placed_of c.deref-2.result.now) (code_parts objects at) (data_parts objects at)
          (c.in_ok-note_lots-2.ensures i j) (c.in_ok-note_lots.ensures i j ∙ ap (λ (o : Option Lot). option_or (option_map placed_of o) (part_of (map placed_of c.deref.result.now) i j)) none)
          (ap (map placed_of) c.deref.ensures.value ∙ code) (ap (map placed_of) c.deref-2.ensures.value ∙ memory);
    }
