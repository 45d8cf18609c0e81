use Rattle.std.proofs.Common.{◌≡◌, List, length, ap, refl, arith}
use Rattle.elf_model.specs.declared.objects.Reloc.{Reloc}
use Rattle.flow_recover.specs.NamedClaims.{IsRelocClaim}
use Rattle.flow_recover.proofs.GainFacts.{gain_both, gains_item, gains_all}
use Rattle.flow_recover.proofs.named.push_relocs.Goals as goal

pub loop-r-preserved : goal.loop-r-preserved
loop-r-preserved c =
    gains_item (IsRelocClaim c.args.o.now) c.args.o.now.relocs c.relocs-r-items.result.now c.loop-r.r-index _ _ c.args.claims.now.items c.loop-r.claims.items c.push_branch.new.claims.items
    c.relocs-r-items.ensures c.loop-r-test.true refl c.loop-r.invariant (λ y. gain_both _ _ _ _ _ (c.in_ok-push_address.ensures y) (c.in_ok-push_branch.ensures y))

pub returns : goal.returns
returns c =
    let same : length c.relocs-r-items.result.now ≡ length c.args.o.now.relocs = ap (λ (xs : List Reloc). length xs) c.relocs-r-items.ensures in
    gains_all (IsRelocClaim c.args.o.now) c.args.o.now.relocs c.loop-r.r-index c.args.claims.now.items c.loop-r.claims.items (omega (arith, same)) c.loop-r.invariant
