use Rattle.std.proofs.Common.{◌≡◌, ◌<◌, ◌∙◌, ◌++◌, ◌+◌, ◌^◌, ℕ, List, [], map, filter, length, get_or, ap, subst, arith, rules}
use Rattle.std.specs.Prelude.{Contains}
use Rattle.std.proofs.lemmas.Option.{slice_get-get_or}
use Rattle.elf_model.proofs.Elements.{contains_at}
use Rattle.elf_model.specs.declared.objects.Symbol.{Symbol}
use Rattle.hardened_form.specs.Symbols.{moved, stays, is_shared}
use Rattle.emit_object.specs.TargetSymbols.{functions_of}
use Rattle.emit_object.specs.MovedSymbols.{numbers_from}
use Rattle.flow_recover.proofs.FlowPoints.{points_rise}
use Rattle.emit_object.specs.RowLists.{ordinals_from}
use Rattle.emit_object.proofs.RowTurns.{ordinals_length}
use Rattle.emit_object.proofs.NumberFacts.{target_within, places_rise, are_new_symbols}
use Rattle.emit_object.proofs.FewSymbols.{symbols_few}
use Rattle.emit_object.proofs.WholeSymbols.{sound_list}
use Rattle.emit_object.proofs.new_symbols.new_symbols.Goals as goal

pub push_kept-requires-clause-points : goal.push_kept-requires-clause-points
push_kept-requires-clause-points c = points_rise c.args.o.now c.args.f.now c.requires.flow c.requires.within

pub push_functions-requires-clause-points : goal.push_functions-requires-clause-points
push_functions-requires-clause-points c = points_rise c.args.o.now c.args.f.now c.requires.flow c.requires.within

pub push_functions-requires-clause-numbered : goal.push_functions-requires-clause-numbered
push_functions-requires-clause-numbered c = λ k d low.
    let ordinals : c.deref.result.now ≡ ordinals_from 0 c.args.o.now.sections = c.deref.ensures.value ∙ c.in_ok-ordinals.ensures ∙ ap (ordinals_from 0) c.sections.ensures in
    let long = ap length ordinals in
    let count = ordinals_length 0 c.args.o.now.sections in
    let here : Contains c.in_ok-targets.targets.items (get_or c.deref-2.result.now k d) = subst (λ (l : List (ℕ × ℕ)). Contains l (get_or c.deref-2.result.now k d)) c.deref-2.ensures.value (contains_at c.deref-2.result.now k _ (slice_get-get_or c.deref-2.result.now k d low)) in
    let within = target_within c.args.o.now c.args.f.now c.in_ok-targets.targets.items c.in_ok-targets.ensures (get_or c.deref-2.result.now k d) here in
    omega (arith, within, long, count)

pub push_shared-requires-clause-points : goal.push_shared-requires-clause-points
push_shared-requires-clause-points c = points_rise c.args.o.now c.args.f.now c.requires.flow c.requires.within

pub numbers-requires-clause-points : goal.numbers-requires-clause-points
numbers-requires-clause-points c = points_rise c.args.o.now c.args.f.now c.requires.flow c.requires.within

pub returns-clause-symbols : goal.returns-clause-symbols
returns-clause-symbols c = λ h items sized are.
    let o = c.args.o.now in
    let m = c.in_ok-mappings.ensures h sized in
    let none : c.new-list.result.items ≡ [] = c.new-list.ensures.items in
    let ordinals : c.deref.result.now ≡ ordinals_from 0 o.sections = c.deref.ensures.value ∙ c.in_ok-ordinals.ensures ∙ ap (ordinals_from 0) c.sections.ensures in
    let places : c.deref-2.result.now ≡ c.in_ok-targets.targets.items = c.deref-2.ensures.value in
    let kept : c.push_kept.new.list.items ≡ c.new-list.result.items ++ map (moved o h items) (filter (stays o items) o.symbols) = c.in_ok-push_kept.ensures h items sized are in
    let before : c.append.new.self.items ≡ c.push_kept.new.list.items ++ c.in_ok-mappings.mappings.items = c.in_ok-append.ensures.items in
    let with_functions : c.push_functions.new.list.items ≡ c.append.new.self.items ++ functions_of items c.deref.result.now c.deref-2.result.now = c.in_ok-push_functions.ensures items are in
    let all : c.push_shared.new.list.items ≡ c.push_functions.new.list.items ++ map (moved o h items) (filter is_shared o.symbols) = c.in_ok-push_shared.ensures h items sized are in
    let numbers : c.in_ok-numbers.numbers.items ≡ numbers_from (stays o items) 0 c.in_ok-first_shared.first_shared o.symbols = c.in_ok-numbers.ensures items are in
    let first : c.in_ok-first_target.first_target ≡ length c.append.new.self.items = c.in_ok-first_target.ensures.count ∙ c.len.ensures ∙ search rules in
    let few : c.in_ok-first_target.first_target + length c.in_ok-targets.targets.items < 2 ^ 32 = let ok = c.in_ok-targets.targets.ok in let more = c.len-2.ensures in let below = c.in_ok-first_target.ensures.few in omega (arith, below, more, ok) in
    let start : c.in_ok-first_shared.first_shared ≡ length c.push_functions.new.list.items = c.in_ok-first_shared.ensures.count ∙ c.len-3.ensures ∙ search rules in
    are_new_symbols o h c.args.f.now c.args.l.now items are m.0 m.1 c.in_ok-targets.targets.items c.in_ok-targets.ensures c.append.new.self.items
    (before ∙ ap (λ (xs : List Symbol). xs ++ c.in_ok-mappings.mappings.items) (kept ∙ ap (λ (xs : List Symbol). xs ++ map (moved o h items) (filter (stays o items) o.symbols)) none)
    ∙ ap (λ (xs : List Symbol). map (moved o h items) (filter (stays o items) o.symbols) ++ xs) m.2)
    c.in_ok-first_target.first_target first c.deref.result.now ordinals c.push_functions.new.list.items
    (with_functions ∙ ap (λ (ps : List (ℕ × ℕ)). c.append.new.self.items ++ functions_of items c.deref.result.now ps) places) c.in_ok-first_shared.first_shared start few c.push_shared.new.list.items all
    c.in_ok-numbers.numbers.items numbers

pub returns-clause-sound : goal.returns-clause-sound
returns-clause-sound c = λ h items rows sized are sections inside.
    sound_list c.args.o.now h rows c.args.f.now c.args.l.now items c.push_shared.new.list.items c.in_ok-targets.targets.items c.in_ok-first_target.first_target c.in_ok-numbers.numbers.items
    (returns-clause-symbols c h items sized are) sections inside c.requires.within c.sound.ensures c.requires.flow (points_rise c.args.o.now c.args.f.now c.requires.flow c.requires.within) c.requires.matches are

pub returns-clause-few : goal.returns-clause-few
returns-clause-few c = λ h items sized are.
    symbols_few c.args.o.now h c.args.f.now c.args.l.now items c.push_shared.new.list.items c.in_ok-targets.targets.items c.in_ok-first_target.first_target c.in_ok-numbers.numbers.items
    (returns-clause-symbols c h items sized are) c.requires.matches sized

pub returns-clause-rise : goal.returns-clause-rise
returns-clause-rise c = places_rise c.args.o.now c.args.f.now c.in_ok-targets.targets.items c.in_ok-targets.ensures

pub returns-clause-numbered : goal.returns-clause-numbered
returns-clause-numbered c = let ok = c.in_ok-targets.targets.ok in let more = c.len-2.ensures in let below = c.in_ok-first_target.ensures.few in omega (arith, below, more, ok)
