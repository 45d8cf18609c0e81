-- What holds of a point by the flow of its object, by liveness, and by the choice of scratch registers.
use Rattle.std.specs.Prelude.{◌≡◌, ℕ, ◌+◌, ◌||◌, true, false, Some, Ok}
use Rattle.thumb_instr.specs.Blocks.{it_after, place_in_block}
use Rattle.thumb_instr.specs.Rows.{decode}
use Rattle.thumb_instr.specs.Sets.{reads_of}
use Rattle.thumb_table.specs.Parts.{CodeBytes}
use Rattle.thumb_table.specs.States.{Site}
use Rattle.thumb_table.specs.Steps.{Fetched, fetch}
use Rattle.thumb_table.specs.Ordinary.{IsClear}
use Rattle.sim_charts.specs.Charts.{Chart, Point, Branch, Call, cond_of, may_fail, falls, it_behind, always_writes, sets_of, leaves, jumps, passes, Leads}
use Rattle.sim_charts.specs.Boundaries.{boundary, uses_at, at_transfer, at_return}

-- the instruction of a point stands in the plain image
pub record Stands (plain : CodeBytes) (a : ℕ) (p : Point) : Type 0 where
  pub fetched : Fetched
  pub there : fetch plain a ≡ Some fetched
  pub width : fetched.width ≡ p.width
  pub means : decode (place_in_block p.it) fetched.first fetched.second ≡ Ok p.instr

abbrev pub site_of : CodeBytes → ℕ → Point → Site
site_of plain a p = record { code = plain; address = a; width = p.width }

-- where control goes on
pub record Continues (chart : Chart) (plain : CodeBytes) (a : ℕ) (p : Point) : Type 0 where
  -- the next point is behind this one, and the unit's end is its place
  pub next : (b : ℕ) → p.next ≡ Some b → (q : Point) × (chart b ≡ Some q) × (b ≡ a + p.width) × (q.place ≡ p.end) × (q.it ≡ it_behind p.instr p.it)
  pub onward : (may_fail (cond_of p) || falls p.instr) ≡ true → p.next ≡ Some (a + p.width)
  -- an instruction that may fail is no IT; one that leads away is the last of its block
  pub no_it : may_fail (cond_of p) ≡ true → it_behind p.instr p.it ≡ it_after p.it
  pub last : jumps p.way ≡ true → it_behind p.instr p.it ≡ 0
  pub branch : (t : ℕ) (q : Point) → p.way ≡ Branch t → chart t ≡ Some q → q.it ≡ 0
  pub entry : p.entry ≡ true → p.it ≡ 0
  -- a call sets lr
  pub links : p.way ≡ Call → sets_of p.instr 14 ≡ true
  -- a call that may return has a next point, and returns there
  pub returns : p.way ≡ Call → IsClear plain (a + p.width) → p.next ≡ Some (a + p.width)
  pub back : (b : ℕ) → p.way ≡ Call → p.next ≡ Some b → p.back ≡ p.end

-- What is live before points: what a point uses, and what is live behind it and passed on. At entries and behind calls
-- no more is live than is kept there.
pub record Lives (chart : Chart) (K : ℕ) (p : Point) : Type 0 where
  pub used : (k : ℕ) → uses_at K p k ≡ true → p.live k ≡ true
  pub passed : (k b : ℕ) (q : Point) → passes p ≡ true → Leads p b → chart b ≡ Some q → q.live k ≡ true → always_writes p k ≡ false → p.live k ≡ true
  pub entered : (k : ℕ) → p.entry ≡ true → p.live k ≡ true → at_transfer k ≡ true
  pub returned : (k b : ℕ) (q : Point) → p.way ≡ Call → p.next ≡ Some b → chart b ≡ Some q → q.live k ≡ true → at_return K k ≡ true

-- What the unit loses is dead after the point. It keeps sp, and it keeps lr where the instruction reads or sets lr.
pub record Spares (chart : Chart) (K : ℕ) (p : Point) : Type 0 where
  pub onward : (k b : ℕ) (q : Point) → leaves p.way ≡ false → Leads p b → chart b ≡ Some q → q.live k ≡ true → p.loses k ≡ false
  pub away : (k : ℕ) → leaves p.way ≡ true → boundary K p.way k ≡ true → p.loses k ≡ false
  pub stack : p.loses 13 ≡ false
  pub link : (reads_of p.instr 14 || sets_of p.instr 14) ≡ true → p.loses 14 ≡ false
