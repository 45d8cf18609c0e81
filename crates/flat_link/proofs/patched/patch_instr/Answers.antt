use Rattle.std.proofs.Common.{ℕ, ◌-◌, arith, ap}
use Rattle.flat_link.specs.Layout.{parts_in}
use Rattle.flat_link.specs.Sites.{link_of}
use Rattle.flat_link.proofs.TieFacts.{standing, code_place}
use Rattle.flat_link.proofs.WrittenFacts.{place_code}
use Rattle.flat_link.proofs.LaidFacts.{code_put, code_room}
use Rattle.flat_link.proofs.patched.patch_instr.Goals as goal

pub overflow_sub-x : goal.overflow_sub-x
overflow_sub-x c =
    let p = code_place c.args.layout.now.objects.now c.args.layout.now.at (standing c.args.layout.now c.requires.layout) (link_of c.args.t.now) c.requires.tie.link c.requires.code in
    omega (arith, p.0, c.place_of.ensures)

pub put_code-requires : goal.put_code-requires
put_code-requires c =
    let base = c.args.layout.now.at.base in
    let wide = place_code c.args.layout.now.objects.now c.args.layout.now.at (link_of c.args.t.now) c.requires.tie (parts_in c.args.layout.now) c.in-Some.code c.requires.instr c.in-Some.ensures in
    code_room c.args.layout.now.objects.now c.args.layout.now.at (standing c.args.layout.now c.requires.layout) (link_of c.args.t.now) c.requires.tie c.requires.code c.args.bytes.now c.args.bytes.now c.requires.size (c.place_of.result - base) _ (ap (λ (n : ℕ). n - base) c.place_of.ensures) wide

pub returns-in-Some-clause-put : goal.returns-in-Some-clause-put
returns-in-Some-clause-put c =
    let base = c.args.layout.now.at.base in
    (code_put c.args.layout.now.objects.now c.args.layout.now.at (standing c.args.layout.now c.requires.layout) (link_of c.args.t.now) c.requires.tie c.requires.code c.args.bytes.now c.put_code.new.bytes c.requires.size c.requires.instr (c.place_of.result - base) c.in-Some.code
    (ap (λ (n : ℕ). n - base) c.place_of.ensures) c.in-Some.ensures c.put_code.ensures).0

pub returns-in-Some-clause-written : goal.returns-in-Some-clause-written
returns-in-Some-clause-written c =
    let base = c.args.layout.now.at.base in
    (code_put c.args.layout.now.objects.now c.args.layout.now.at (standing c.args.layout.now c.requires.layout) (link_of c.args.t.now) c.requires.tie c.requires.code c.args.bytes.now c.put_code.new.bytes c.requires.size c.requires.instr (c.place_of.result - base) c.in-Some.code
    (ap (λ (n : ℕ). n - base) c.place_of.ensures) c.in-Some.ensures c.put_code.ensures).1
