use Rattle.std.proofs.Common.{◌≡◌, ◌+◌, arith}
use Rattle.thumb_table.specs.Schedules.{is_in}
use Rattle.skip_machine.proofs.Further.{further}
use Rattle.skip_machine.specs.declared.machines.Moved.TheVariants.{On, Returned}
use Rattle.skip_machine.specs.Runs.{Steps}
use Rattle.skip_machine.proofs.machines.Machine.run.Goals as goal

pub loop-i-preserved : goal.loop-i-preserved
loop-i-preserved c =
    let mid = c.loop-i.self in
    let skips = is_in c.args.plan.now in
    let skipped : c.holds-skipped.result ≡ skips mid.steps = cc in
    let made : Steps (skips mid.steps) mid c.step.new.self On = rw (skipped, c.in-Ok-On.field-0-is) at c.in-Ok-On.ensures.ok in
    record {
      went = further skips c.args.self.now mid c.step.new.self c.loop-i.i On c.loop-i.invariant.went c.loop-i.invariant.not_returned made;
      not_returned = λ _. made.leaves.0;
      running = made.leaves.1;
    }

pub returns-in-Ok-Returned : goal.returns-in-Ok-Returned
returns-in-Ok-Returned c =
    let mid = c.loop-i.self in
    let skips = is_in c.args.plan.now in
    let skipped : c.holds-skipped.result ≡ skips mid.steps = cc in
    let made : Steps (skips mid.steps) mid c.step.new.self Returned = rw (skipped, c.in-Ok-Returned.field-0-is) at c.in-Ok-Returned.ensures.ok in
    let went = further skips c.args.self.now mid c.step.new.self c.loop-i.i Returned c.loop-i.invariant.went c.loop-i.invariant.not_returned made in
    record {
      made = c.loop-i.i + 1;
      counted = went.counted;
      same_code = went.same_code;
      ends = (omega arith, record { some = omega arith; goes = went.goes; over = made.leaves.0 });
      ordinary = went.ordinary;
      running = made.leaves.1;
    }

pub returns : goal.returns
returns c =
    let went = c.loop-i.invariant.went in
    record {
      made = c.loop-i.i;
      counted = went.counted;
      same_code = went.same_code;
      ends = (omega arith, record { goes = went.goes; still = c.loop-i.invariant.not_returned });
      ordinary = went.ordinary;
      running = c.loop-i.invariant.running;
    }
