use Rattle.std.proofs.Common.{◌≡◌, List, length, ap, arith}
use Rattle.elf_model.specs.declared.objects.Symbol.{Symbol}
use Rattle.flow_recover.specs.NamedClaims.{IsEntryClaim}
use Rattle.flow_recover.proofs.GainFacts.{gains_item, gains_all}
use Rattle.flow_recover.proofs.named.push_entries.Goals as goal

pub loop-s-preserved : goal.loop-s-preserved
loop-s-preserved c =
    gains_item (IsEntryClaim c.args.o.now) c.args.o.now.symbols c.symbols-s-items.result.now c.loop-s.s-index c.s-item.result c.s-item.result c.args.claims.now.items c.loop-s.claims.items c.push_entry.new.claims.items
    c.symbols-s-items.ensures c.loop-s-test.true c.s-item.is c.loop-s.invariant c.in_ok-push_entry.ensures

pub returns : goal.returns
returns c =
    let same : length c.symbols-s-items.result.now ≡ length c.args.o.now.symbols = ap (λ (xs : List Symbol). length xs) c.symbols-s-items.ensures in
    gains_all (IsEntryClaim c.args.o.now) c.args.o.now.symbols c.loop-s.s-index c.args.claims.now.items c.loop-s.claims.items (omega (arith, same)) c.loop-s.invariant
