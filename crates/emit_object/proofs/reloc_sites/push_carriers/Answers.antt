use Rattle.std.proofs.Common.{◌≡◌, ◌∙◌, ◌++◌, ◌∷◌, [], ℕ, ◌+◌, Vec, Global, get_or, drop, sym, ap, subst, arith}
use Rattle.elf_model.specs.declared.objects.RelocKind.{RelocKind}
use Rattle.thumb_encode.specs.declared.codes.Code.TheVariants.{Half}
use Rattle.thumb_encode.specs.Encoding.{width_of}
use Rattle.branch_layout.specs.Copies.{bytes_of as bytes_of_width}
use Rattle.seq_core.specs.declared.steps.Step.{Step}
use Rattle.hardened_form.specs.Carriers.{kind_on}
use Rattle.emit_object.specs.declared.reloc_sites.Site.{Site}
use Rattle.emit_object.specs.UnitCopies.{carries, copies_from}
use Rattle.emit_object.specs.RelocSites.{copy_sites}
use Rattle.emit_object.proofs.SiteLists.{copy_kept, copy_left, copies_done, few_in, get_same}
use Rattle.emit_object.proofs.reloc_sites.push_carriers.Goals as goal
use Rattle.emit_object.proofs.reloc_sites.push_carriers.Goals.{then-carries+in_ok-push, else-carries}

pub loop-k-preserved : goal.loop-k-preserved
loop-k-preserved c =
    let few = few_in (width_of (get_or c.args.codes.now c.loop-k.k (Half 0))) in
    let bytes = c.bytes_of-at.ensures in
    let step : Step = c.index-copies-k.result in
    let is : carries (get_or c.args.copies.now c.loop-k.k step) ≡ c.carries.result = ap carries (sym c.index-copies-k.is) ∙ sym c.carries.ensures in
    let before = c.loop-k.invariant in
    let more = sym c.bytes_of-at.ensures in
    let goes : ℕ → Vec Site Global → Type 0 =
    λ (b : ℕ) (v : Vec Site Global). v.items ++ copy_sites c.args.number c.args.r.now (copies_from (c.loop-k.at + b) (drop (c.loop-k.k + 1) c.args.copies.now) (drop (c.loop-k.k + 1) c.args.codes.now))
    ≡ c.args.sites.now.items ++ copy_sites c.args.number c.args.r.now (copies_from c.args.start c.args.copies.now c.args.codes.now) in
    record {
      all = subst (λ (b : ℕ). goes b c.if-carries.sites) more (elim c.if-carries.branch [
        | then-carries+in_ok-push w ↦
            let same = get_same c.args.copies.now c.loop-k.k w.index-copies-k-then-carries.result step c.loop-k-test.true in
            let kind = w.kind_on.ensures ∙ ap (λ (s : Step). kind_on s.instr c.args.r.now.kind) same in
            subst (goes (bytes_of_width (width_of (get_or c.args.codes.now c.loop-k.k (Half 0))))) (sym w.sites-is)
            (copy_kept c.args.number c.args.r.now c.args.copies.now c.args.codes.now c.requires.count c.loop-k.at c.loop-k.k step (Half 0) c.loop-k-test.true c.args.sites.now.items c.loop-k.sites.items _ before.all
            w.push.new.self.items (is ∙ w.if-carries.true) (w.in_ok-push.ensures.items ∙ ap (λ (k : RelocKind). c.loop-k.sites.items ++ record { section = c.args.r.now.section; at = c.loop-k.at; number = c.args.number; kind = k } ∷ []) kind))
        | else-carries w ↦
            subst (goes (bytes_of_width (width_of (get_or c.args.codes.now c.loop-k.k (Half 0))))) (sym w.sites-is)
            (copy_left c.args.number c.args.r.now c.args.copies.now c.args.codes.now c.requires.count c.loop-k.at c.loop-k.k step (Half 0) c.loop-k-test.true c.args.sites.now.items c.loop-k.sites.items _ before.all
            (is ∙ w.if-carries.false))
      ]);
      low = omega (arith, few, bytes, before.low);
    }

pub returns : goal.returns
returns c = copies_done c.args.number c.args.r.now c.args.copies.now c.args.codes.now c.requires.count c.loop-k.at c.loop-k.k c.args.sites.now.items c.loop-k.sites.items _ c.loop-k-test.false c.loop-k.invariant.all
