use Rattle.std.proofs.Common.{◌≡◌, ◌∙◌, List, ℕ, length, map, string_bytes, None, refl, sym, ap, subst, arith}
use Rattle.std.specs.Prelude.{All}
use Rattle.std.proofs.lemmas.List.{length-map}
use Rattle.elf_model.specs.declared.refusals.TheConstants.Limit.{INPUT}
use Rattle.elf_model.specs.Objects.{ObjectParts}
use Rattle.elf_read.specs.Faults.{dropped_count}
use Rattle.harden_core.specs.declared.hardening.Hardened.{Hardened}
use Rattle.guard_words.specs.Tasks.{pairs_in}
use Rattle.guard_cli.specs.declared.texts.Counts.{Counts}
use Rattle.guard_cli.specs.HardenSteps.{AreHardened, CanBeSaved, all_counts, saves_by, tallies_with}
use Rattle.guard_cli.specs.Steps.{contents_of}
use Rattle.guard_cli.specs.Texts.{report}
use Rattle.guard_cli.proofs.HardenParts.{as_many_counts, as_many_hardened, harden_made}
use Rattle.guard_cli.proofs.Loaded.{as_many, contents_count}
use Rattle.guard_cli.proofs.harden.decide.Goals as goal

pub harden_all-requires-clause-few : goal.harden_all-requires-clause-few
harden_all-requires-clause-few c =
    let files = contents_of c.args.files.now in
    let objects = c.in_ok-inputs.inputs.objects.items in
    omega (arith, ap (λ (l : List ObjectParts). length l) c.deref.ensures.value, as_many INPUT files objects c.in_ok-inputs.ensures.taken, contents_count c.args.files.now, c.requires.few)

pub outputs_of-requires : goal.outputs_of-requires
outputs_of-requires c =
    let files = contents_of c.args.files.now in
    let objects = c.in_ok-inputs.inputs.objects.items in
    let hardened = c.in_ok-hardened.hardened.items in
    let are = subst (λ (l : List ObjectParts). AreHardened l hardened) c.deref.ensures.value c.in_ok-hardened.ensures.hardened in
    ap (λ (l : List Hardened). length l) c.deref-2.ensures.value ∙ as_many_hardened objects hardened are ∙ as_many INPUT files objects c.in_ok-inputs.ensures.taken
    ∙ contents_count c.args.files.now ∙ c.requires.count

pub counts_of-requires-clause-objects : goal.counts_of-requires-clause-objects
counts_of-requires-clause-objects c =
    let objects = c.in_ok-inputs.inputs.objects.items in
    let hardened = c.in_ok-hardened.hardened.items in
    let are = subst (λ (l : List ObjectParts). AreHardened l hardened) c.deref.ensures.value c.in_ok-hardened.ensures.hardened in
    sym (ap (λ (l : List Hardened). length l) c.deref-3.ensures.value ∙ as_many_hardened objects hardened are)

pub counts_of-requires-clause-dropped : goal.counts_of-requires-clause-dropped
counts_of-requires-clause-dropped c =
    let files = contents_of c.args.files.now in
    let objects = c.in_ok-inputs.inputs.objects.items in
    let hardened = c.in_ok-hardened.hardened.items in
    let are = subst (λ (l : List ObjectParts). AreHardened l hardened) c.deref.ensures.value c.in_ok-hardened.ensures.hardened in
    ap (λ (l : List ℕ). length l) c.in_ok-inputs.ensures.dropped ∙ length-map files dropped_count ∙ sym (as_many INPUT files objects c.in_ok-inputs.ensures.taken)
    ∙ sym (ap (λ (l : List Hardened). length l) c.deref-3.ensures.value ∙ as_many_hardened objects hardened are)

pub report_text-requires : goal.report_text-requires
report_text-requires c =
    let files = contents_of c.args.files.now in
    let objects = c.in_ok-inputs.inputs.objects.items in
    let dropped = c.in_ok-inputs.inputs.dropped.items in
    let hardened = c.in_ok-hardened.hardened.items in
    let are = subst (λ (l : List ObjectParts). AreHardened l hardened) c.deref.ensures.value c.in_ok-hardened.ensures.hardened in
    let many = as_many_hardened objects hardened are in
    let read = as_many INPUT files objects c.in_ok-inputs.ensures.taken in
    let left : length dropped ≡ length hardened = ap (λ (l : List ℕ). length l) c.in_ok-inputs.ensures.dropped ∙ length-map files dropped_count ∙ sym read ∙ sym many in
    let counts_are : c.in_ok-counts.counts.items ≡ all_counts objects dropped hardened = c.in_ok-counts.ensures ∙ ap (λ (l : List Hardened). all_counts objects dropped l) c.deref-3.ensures.value in
    ap (λ (l : List Counts). length l) (c.deref-4.ensures.value ∙ counts_are) ∙ as_many_counts objects dropped hardened (sym many) left
    ∙ many ∙ read ∙ contents_count c.args.files.now ∙ c.requires.count

pub returns-clause-made : goal.returns-clause-made
returns-clause-made c =
    let files = contents_of c.args.files.now in
    let pairs = pairs_in (map string_bytes c.args.names.now) in
    let objects = c.in_ok-inputs.inputs.objects.items in
    let dropped = c.in_ok-inputs.inputs.dropped.items in
    let hardened = c.in_ok-hardened.hardened.items in
    let are = subst (λ (l : List ObjectParts). AreHardened l hardened) c.deref.ensures.value c.in_ok-hardened.ensures.hardened in
    let can = subst (All (λ (h : Hardened). CanBeSaved h.object)) c.deref-2.ensures.value c.in_ok-outputs.ensures.sound in
    let counts_are : c.deref-4.result.now ≡ all_counts objects (map dropped_count files) hardened =
    c.deref-4.ensures.value ∙ c.in_ok-counts.ensures ∙ ap (λ (l : List Hardened). all_counts objects dropped l) c.deref-3.ensures.value
    ∙ ap (λ (l : List ℕ). all_counts objects l hardened) c.in_ok-inputs.ensures.dropped in
    harden_made pairs files objects hardened (record { outputs = c.in_ok-outputs.outputs; report = c.into_bytes.result; stopped = None })
    (contents_count c.args.files.now ∙ c.requires.count) c.in_ok-inputs.ensures.taken are can
    (c.in_ok-outputs.ensures.saves ∙ ap (saves_by pairs) c.deref-2.ensures.value)
    (ap (λ v. v.items) c.into_bytes.ensures.value ∙ c.in_ok-report.ensures ∙ ap (λ (l : List Counts). report (tallies_with pairs l)) counts_are) refl
