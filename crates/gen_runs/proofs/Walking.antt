-- Walks: runs without skips, of ordinary steps that start away from the end of the call.
use Rattle.std.proofs.Common.{◌≡◌, ◌≢◌, ℕ, zero, suc, ◌+◌, ◌<◌, Bool, false, Ok, refl, subst, arith}
use Rattle.thumb_table.specs.Parts.{CodeBytes}
use Rattle.thumb_table.specs.States.{Core, State, at}
use Rattle.thumb_table.specs.Steps.{move, fetch, IsOrdinary}
use Rattle.thumb_table.specs.Schedules.{run, exit, Returns, OrdinaryRun}

-- no step is skipped
abbrev pub none : ℕ → Bool
none = λ i. false

pub record Step (code : CodeBytes) (s t : State) : Type 0 where
  pub moves : move code false s ≡ Ok t
  pub ordinary : IsOrdinary code (fetch code s.pc) s
  pub inside : s.pc ≢ exit

-- n such steps
abbrev pub Walk : CodeBytes → ℕ → State → State → Type 0
Walk code zero s t = s ≡ t
Walk code (suc n) s t = (m : State) × Step code s m × Walk code n m t

pub one : (code : CodeBytes) (s t : State) → Step code s t → Walk code 1 s t
one code s t step = (t, step, refl)

pub join : (code : CodeBytes) (a b n : ℕ) (s m t : State) → a + b ≡ n → Walk code a s m → Walk code b m t → Walk code n s t
join code zero b n s m t e v w =
    let eb : b ≡ n = omega arith in
    let es : m ≡ s = cc in
    subst (λ k. Walk code k s t) eb (subst (λ u. Walk code b u t) es w)
join code (suc a) b zero s m t e v w = absurd (omega arith)
join code (suc a) b (suc n) s m t e v w = (v.0, v.1, join code a b n v.0 m t (omega arith) v.2 w)

walk_runs : (code : CodeBytes) (n i : ℕ) (s t : State) → Walk code n s t → run code none n i s ≡ Ok t
walk_runs code zero i s t w = cc
walk_runs code (suc n) i s t w = rw w.1.moves (walk_runs code n (suc i) w.0 t w.2)

walk_ordinary : (code : CodeBytes) (n i : ℕ) (s t : State) → Walk code n s t → OrdinaryRun code none n i s
walk_ordinary code zero i s t w = tt
walk_ordinary code (suc n) i s t w = (
  λ e. w.1.ordinary,
  λ next moved.
      let first = w.1.moves in
      let same : w.0 ≡ next = cc in
      subst (λ u. OrdinaryRun code none n (suc i) u) same (walk_ordinary code n (suc i) w.0 t w.2),
)

walk_on : (code : CodeBytes) (n i : ℕ) (s t : State) (j : ℕ) (u : State) → Walk code n s t → j < n → run code none j i s ≡ Ok u → u.pc ≢ exit
walk_on code zero i s t j u w lt e = absurd (omega arith)
walk_on code (suc n) i s t zero u w lt e = let same : s ≡ u = cc in subst (λ (v : State). v.pc ≢ exit) same w.1.inside
walk_on code (suc n) i s t (suc j) u w lt e = walk_on code n (suc i) w.0 t j u w.2 (omega arith) (rw w.1.moves at e)

-- a walk to the end of the call is a call that returns, by ordinary steps
pub walk_returns : (code : CodeBytes) (n : ℕ) (s : State) (x : Core) → 0 < n → Walk code n s (at exit x) → Returns code none n 0 s (at exit x) × OrdinaryRun code none n 0 s
walk_returns code n s x some w = (
  record {
    some = some;
    goes = record { runs = walk_runs code n 0 s (at exit x) w; on = λ j u early late e. walk_on code n 0 s (at exit x) j u w late e };
    over = refl;
  },
  walk_ordinary code n 0 s (at exit x) w,
)
