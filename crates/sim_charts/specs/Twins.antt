-- An instruction that is used in an ordinary way makes alike changes in both runs.
use Rattle.std.specs.Prelude.{◌≡◌, ◌<◌, ◌⊎◌, ℕ, ◌-◌, ◌%◌, ◌==◌, Bool, true, false, Some, Ok, Err, IsTrue}
use Rattle.mark_word.specs.Words.{Word, is_word}
use Rattle.mark_word.specs.declared.marks.Mark.TheVariants as mark
use Rattle.thumb_instr.specs.declared.instructions.Instr.{Instr}
use Rattle.thumb_instr.specs.declared.instructions.Instr.TheVariants as instr
use Rattle.thumb_instr.specs.Sets.{reads_of}
use Rattle.thumb_table.specs.declared.faults.FaultKind.TheVariants.{Trap}
use Rattle.thumb_table.specs.Parts.{CodeBytes}
use Rattle.thumb_table.specs.States.{Core, Site, Change, Exit, Falls, Jumps, read, applied}
use Rattle.thumb_table.specs.Effects.{change}
use Rattle.thumb_table.specs.Ordinary.{IsOrdinaryUse, OrdinaryReturn, OrdinaryJump}
use Rattle.seq_core.specs.Does.{Effect}
use Rattle.sim_charts.specs.Charts.{Chart, Point, Branch, Transfer, Call, Return, leaves, falls, it_behind, reads_at, sets_of, is_taken}
use Rattle.sim_charts.specs.Words.{IsMarked}
use Rattle.sim_charts.specs.Alike.{SameWord, SameMember, SameStore, SameMemory, AreSound}

-- An ordinary use for K results: with fewer than four, a function returns to a return address alone.
abbrev pub is_bx_lr : Instr → Bool
is_bx_lr (instr.Jump i) = i.m == 14
is_bx_lr _ = false

abbrev pub IsNarrowUse : ℕ → Instr → Core → Type 0
IsNarrowUse K i x = K < 4 → is_bx_lr i ≡ true → (a : ℕ) × ((read x 14).mark ≡ mark.Return a)

pub record IsOrdinaryFor (K : ℕ) (i : Instr) (site : Site) (x : Core) : Type 0 where
  pub used : IsOrdinaryUse i site x
  pub narrow : IsNarrowUse K i x

-- where both runs go
pub data GoesAlike (chart : Chart) (plain : CodeBytes) (K : ℕ) (p : Point) : Exit → Exit → Type 0 where
  falls_on : leaves p.way ≡ false → falls p.instr ≡ true → GoesAlike chart plain K p Falls Falls
  branches : (t : ℕ) (q : Point) → p.way ≡ Branch t → chart t ≡ Some q → GoesAlike chart plain K p (Jumps t) (Jumps q.place)
  -- to a function, by its offset
  enters : (t : ℕ) (q : Point) → (p.way ≡ Transfer) ⊎ (p.way ≡ Call) → chart t ≡ Some q → q.entry ≡ true → GoesAlike chart plain K p (Jumps t) (Jumps q.place)
  -- to a word, of a register or of memory
  follows : (w v : Word) → leaves p.way ≡ true → w.bits % 2 ≡ 1 → IsTrue (is_word w) → SameWord chart w v → OrdinaryJump plain w
      → (p.way ≡ Return → OrdinaryReturn plain w ⊎ ((K ≡ 4) × (reads_of p.instr 14 ≡ true)))
      → GoesAlike chart plain K p (Jumps (w.bits - 1)) (Jumps (v.bits - 1))

-- What is the same after both changes: what the instruction sets, and what was the same before. The plain one's marks are
-- those of its bits.
pub record ChangesAlike (chart : Chart) (plain : CodeBytes) (K : ℕ) (p : Point) (x y : Core) (h g : Change) : Type 0 where
  pub members : (k : ℕ) → (sets_of p.instr k ≡ true) ⊎ SameMember chart k x y → SameMember chart k (applied h x) (applied g y)
  pub memory : SameMemory chart (applied h x).memory (applied g y).memory
  pub marked : IsMarked (applied h x)
  pub it : (applied h x).it ≡ it_behind p.instr x.it
  pub goes : GoesAlike chart plain K p h.exit g.exit

-- both cores are the same in what the instruction reads
pub record ReadsAlike (chart : Chart) (p : Point) (x y : Core) : Type 0 where
  pub sound : AreSound x y
  pub members : (k : ℕ) → reads_at p k ≡ true → SameMember chart k x y
  pub store : SameStore chart x y

-- An ordinary step at a point is alike: `effect` is what the instruction makes of a hardened core, with the numbers of
-- the hardened image.
pub record Twin (chart : Chart) (plain : CodeBytes) (K : ℕ) (p : Point) (site : Site) (effect : Effect) : Type 0 where
  pub changes : (x y : Core) (h : Change) → ReadsAlike chart p x y → x.it ≡ p.it → is_taken p x ≡ true → IsOrdinaryFor K p.instr site x → change p.instr site x ≡ Ok h →
      (g : Change) × (effect y ≡ Ok g) × ChangesAlike chart plain K p x y h g
  pub traps : (x y : Core) → ReadsAlike chart p x y → is_taken p x ≡ true → change p.instr site x ≡ Err Trap → effect y ≡ Err Trap
