-- What is the same in both runs, by the chart: an address of code has its image by a point, and so a word that is the
-- same as another one names a point, or the end of the whole call.
use Rattle.std.specs.Prelude.{◌≡◌, ◌<◌, ◌⊎◌, ℕ, ◌+◌, Bool, true, length, Some}
use Rattle.mark_word.specs.Words.{Word}
use Rattle.thumb_table.specs.Parts.{Memory}
use Rattle.thumb_table.specs.States.{Core, read}
use Rattle.sim_charts.specs.Charts.{Chart, Point, Call}
use Rattle.sim_charts.specs.Words.{Taking, IsMarked}
use Rattle.sim_charts.specs.Words as words

-- an address of an entry, and the hardened one
abbrev pub EntryTo : Chart → ℕ → ℕ → Type 0
EntryTo chart a h = (e : ℕ) × (p : Point) × (chart e ≡ Some p) × (p.entry ≡ true) × (a ≡ e + 1) × (h ≡ p.place + 1)

-- a return address, which is behind a call, and the hardened one; the end of the whole call stays
abbrev pub BackOf : Chart → ℕ → ℕ → Type 0
BackOf chart a h = (c : ℕ) × (p : Point) × (chart c ≡ Some p) × (p.way ≡ Call) × (a ≡ c + p.width + 1) × (h ≡ p.back + 1)

abbrev pub ReturnTo : Chart → ℕ → ℕ → Type 0
ReturnTo chart a h = ((a ≡ 0x7FFFFFFF) × (h ≡ 0x7FFFFFFF)) ⊎ BackOf chart a h

abbrev pub by_chart : Chart → Taking
by_chart chart = record { entry = EntryTo chart; back = ReturnTo chart }

abbrev pub SameWord : Chart → Word → Word → Type 0
SameWord chart = words.SameWord (by_chart chart)

abbrev pub SameMemory : Chart → Memory → Memory → Type 0
SameMemory chart = words.SameMemory (by_chart chart)

-- the same at a member: a register or a flag
pub record SameMember (chart : Chart) (k : ℕ) (x y : Core) : Type 0 where
  pub word : k < 15 → SameWord chart (read x k) (read y k)
  pub n : k ≡ 16 → x.n ≡ y.n
  pub z : k ≡ 17 → x.z ≡ y.z
  pub c : k ≡ 18 → x.c ≡ y.c
  pub v : k ≡ 19 → x.v ≡ y.v

-- sp and memory are the same: this holds at every point, and at the end
pub record SameStore (chart : Chart) (x y : Core) : Type 0 where
  pub stack : SameMember chart 13 x y
  pub memory : SameMemory chart x.memory y.memory

-- Both cores have their registers, the plain one's marks are those of its bits, and the hardened one is in no IT block.
pub record AreSound (x y : Core) : Type 0 where
  pub plain : length x.regs ≡ 15
  pub marked : IsMarked x
  pub hard : length y.regs ≡ 15
  pub clear : y.it ≡ 0

-- two runs agree where some members are live
pub record Agree (chart : Chart) (live : ℕ → Bool) (x y : Core) : Type 0 where
  pub sound : AreSound x y
  pub members : (k : ℕ) → live k ≡ true → SameMember chart k x y
  pub store : SameStore chart x y
