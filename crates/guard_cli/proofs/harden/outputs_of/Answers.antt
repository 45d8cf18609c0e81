use Rattle.std.proofs.Common.{◌≡◌, ◌∷◌, ◌++◌, ◌∙◌, ◌+◌, [], List, ℕ, length, map, take, drop, get_or, string_bytes, sym, ap, subst, arith}
use Rattle.std.specs.Prelude.{All}
use Rattle.std.proofs.lemmas.List.{length-drop, take_all, take_more}
use Rattle.std.proofs.lemmas.List.Elements.{All-push}
use Rattle.elf_model.specs.Canonical.{canonical}
use Rattle.harden_core.specs.declared.hardening.Hardened.{Hardened}
use Rattle.guard_words.specs.Tasks.{pairs_in}
use Rattle.guard_cli.specs.declared.outputs.Output.{Output}
use Rattle.guard_cli.specs.HardenSteps.{CanBeSaved, saves_by}
use Rattle.guard_cli.specs.Steps.{saves_of}
use Rattle.guard_cli.specs.Works.{Save}
use Rattle.guard_cli.proofs.HardenLoops.{behind, drop_next, pair_is_left, pairs_next_output, saves_next}
use Rattle.guard_cli.proofs.harden.outputs_of.Goals as goal

pub unreachable-requires : goal.unreachable-requires
unreachable-requires c =
    let count = length-drop c.loop-made.made-index c.args.hardened.now in
    pair_is_left c.loop-made.rest.now (length (drop c.loop-made.made-index c.args.hardened.now)) c.in_default.len_below c.loop-made.invariant.left (omega (arith, count, c.loop-made-test.true))

pub loop-made-preserved : goal.loop-made-preserved
loop-made-preserved c =
    let rest = c.loop-made.rest.now in
    let i = c.loop-made.made-index in
    let hardened = c.args.hardened.now in
    let made = c.made-item.result in
    let name = c.name-item.result in
    let o = c.in_ok-output_of.field-0 in
    let all = saves_by (pairs_in (map string_bytes c.args.names.now)) hardened in
    let pairs_are = pairs_next_output rest name c.in-len2-up.len_at_least c.name-item.is in
    let made_are : drop i hardened ≡ made ∷ drop (i + 1) hardened = drop_next hardened i made c.loop-made-test.true c.made-item.is in
    let one = ap (λ (s : Save). s ∷ []) (c.in_ok-output_of.ensures.save ∙ ap (λ (n : List ℕ). record { name = n; bytes = canonical made.object }) c.as_str.ensures.value) in
    let more : take (i + 1) hardened ≡ take i hardened ++ made ∷ [] = take_more hardened i made c.loop-made-test.true ∙ ap (λ (h : Hardened). take i hardened ++ h ∷ []) (sym c.made-item.is) in
    record {
      saves = subst (λ (l : List Output). saves_of l ++ saves_by (pairs_in (map string_bytes (behind rest))) (drop (i + 1) hardened) ≡ all) (sym c.in_ok-push.ensures.items)
          (saves_next c.loop-made.outputs.items o (pairs_in (map string_bytes rest)) (pairs_in (map string_bytes (behind rest))) (string_bytes (get_or rest 0 name)) (string_bytes name)
          (drop i hardened) made (drop (i + 1) hardened) all pairs_are made_are one c.loop-made.invariant.saves);
      left = omega (arith, ap length pairs_are, ap length made_are, c.loop-made.invariant.left);
      sound = subst (All (λ (h : Hardened). CanBeSaved h.object)) (sym more)
          (All-push (λ (h : Hardened). CanBeSaved h.object) (take i hardened) made c.loop-made.invariant.sound c.in_ok-output_of.ensures.sound);
    }

pub returns-clause-sound : goal.returns-clause-sound
returns-clause-sound c =
    let i = c.loop-made.made-index in
    let all = take_all i c.args.hardened.now (omega arith) in
    subst (All (λ (h : Hardened). CanBeSaved h.object)) all c.loop-made.invariant.sound
