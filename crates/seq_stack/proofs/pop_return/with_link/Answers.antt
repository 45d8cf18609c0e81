use Rattle.std.proofs.Common.{◌≡◌, ◌+◌, ◌^◌, true, false, sym, ap, ◌∙◌, arith}
use Rattle.thumb_instr.specs.declared.refusals.ItPlace.TheVariants.{Outside}
use Rattle.thumb_instr.specs.declared.instructions.Instr.TheVariants as instr
use Rattle.thumb_instr.specs.Fields.{MultiFields}
use Rattle.thumb_instr.specs.Operands.{is_list}
use Rattle.seq_stack.proofs.Popped.{link_is_list}
use Rattle.seq_stack.proofs.pop_return.with_link.Goals as goal

pub returns-clause-list : goal.returns-clause-list
returns-clause-list c =
    let v = sym c.i.view_is in
    let list : c.args.i.now.list.0 ≡ c.i.inside.list.0 = ap (λ (m : MultiFields). m.list.0) v in
    let sum : c.from_bits_retain.result.0 ≡ c.args.i.now.list.0 + 2 ^ 14 = let a = c.from_bits_retain.ensures tt in let b = c.bits.ensures tt in let l = c.bits-2.ensures tt in omega arith in
    let is : is_list c.args.i.now.list.0 c.args.i.now.pc ≡ true = ap (λ (m : MultiFields). is_list m.list.0 m.pc) v ∙ c.i.invariant in
    let row = c.requires.row in
    let linked = link_is_list c.args.i.now is c.requires.pc (c.decodes_use_stack.ensures Outside row.first row.second (instr.Multi c.args.i.now) row.stands).0 in
    ap (λ l. is_list l false) sum ∙ linked
