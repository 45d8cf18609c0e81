use Rattle.std.proofs.Common.{◌≤◌, ◌+◌, List, ℕ, [], ◌∷◌, ◌++◌, length, map, take, ◌∙◌, sym, ap, subst, arith}
use Rattle.elf_model.specs.Objects.{ObjectParts}
use Rattle.elf_model.specs.Files.{StandsFor}
use Rattle.elf_read.specs.Faults.{IsDeniedFor, IsFaultless, dropped_count}
use Rattle.std.proofs.lemmas.List.{map-append}
use Rattle.guard_cli.specs.Inputs.{IsReadAs, AreReadAs, IsFaulty, IsTurnedDown}
use Rattle.guard_cli.specs.Steps.{contents_of}
use Rattle.guard_cli.proofs.Accepted.{each_read}
use Rattle.guard_cli.proofs.Loaded.{contents_next, holds_here, denied, read_more}
use Rattle.guard_cli.proofs.loading.read_all.Goals as goal

pub read_object-requires : goal.read_object-requires
read_object-requires c =
    let short = holds_here c.args.files.now c.loop-k.k c.index-files-k.result (omega arith) c.index-files-k.is (λ (f : List ℕ). length f ≤ c.args.limit.now.file) c.requires.short in
    omega (arith, short, c.requires.low, ap length c.deref.ensures.value)

pub returns-in-Err-clause-refused : goal.returns-in-Err-clause-refused
returns-in-Err-clause-refused c =
    let files = c.args.files.now in
    let k = c.loop-k.k in
    let v = c.index-files-k.result in
    let why = c.in-Err.why in
    let here : IsDeniedFor v.items c.args.limit.now why = subst (λ (b : List ℕ). IsDeniedFor b c.args.limit.now why) c.deref.ensures.value c.in-Err.ensures.refused in
    let none = each_read c.args.limit.now (λ f. IsFaultless f c.args.limit.now) (λ f o h. h.faultless) (contents_of (take k files)) c.loop-k.objects.items c.loop-k.invariant.read in
    subst (IsTurnedDown (IsFaulty c.args.limit.now (contents_of files))) (sym c.deny_in.ensures) (denied files k v (omega arith) c.index-files-k.is c.args.limit.now why c.requires.short none here)

pub loop-k-preserved : goal.loop-k-preserved
loop-k-preserved c =
    let files = c.args.files.now in
    let k = c.loop-k.k in
    let v = c.index-files-k.result in
    let o = c.in-Ok.read.object in
    let short = holds_here files k v (omega arith) c.index-files-k.is (λ (f : List ℕ). length f ≤ c.args.limit.now.file) c.requires.short in
    let one : IsReadAs c.args.limit.now v.items o = record {
      short = short;
      faultless = subst (λ (b : List ℕ). IsFaultless b c.args.limit.now) c.deref.ensures.value c.in-Ok.ensures.faultless;
      stands = subst (λ (b : List ℕ). StandsFor b o) c.deref.ensures.value c.in-Ok.ensures.object;
    } in
    let next = contents_next files k v (omega arith) c.index-files-k.is in
    record {
      read = subst (λ (os : List ObjectParts). AreReadAs c.args.limit.now (contents_of (take (k + 1) files)) os) (sym c.in_ok-push-in-Ok-2.ensures.items)
          (subst (λ (fs : List (List ℕ)). AreReadAs c.args.limit.now fs (c.loop-k.objects.items ++ o ∷ [])) (sym next)
          (read_more c.args.limit.now (contents_of (take k files)) c.loop-k.objects.items v.items o c.loop-k.invariant.read one));
      dropped = c.in_ok-push-in-Ok.ensures.items ∙ ap (λ (l : List ℕ). l ++ c.in-Ok.read.dropped ∷ []) c.loop-k.invariant.dropped
          ∙ ap (λ (n : ℕ). map dropped_count (contents_of (take k files)) ++ n ∷ []) (c.in-Ok.ensures.dropped ∙ ap dropped_count c.deref.ensures.value)
          ∙ sym (ap (map dropped_count) next ∙ map-append dropped_count (contents_of (take k files)) (v.items ∷ []));
    }
