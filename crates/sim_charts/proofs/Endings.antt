-- How a run of hardened code ends, where no code lies at the end of the whole call.
use Rattle.std.proofs.Common.{◌≡◌, ◌≢◌, ℕ, zero, suc, ◌+◌, ◌-◌, ◌<◌, Bool, true, false, None, Ok, Err, refl, sym, ap, ◌∙◌, arith}
use Rattle.thumb_table.specs.declared.faults.FaultKind.TheVariants.{Trap, BadFetch}
use Rattle.thumb_table.specs.Parts.{CodeBytes}
use Rattle.thumb_table.specs.States.{State}
use Rattle.thumb_table.specs.Steps.{move, fetch, step_of, skip_of}
use Rattle.thumb_table.specs.Schedules.{run, exit, ReturnsWithin, Breaks}
use Rattle.seq_core.specs.Does.{Comes}
use Rattle.seq_core.proofs.Runs.{go_on_ok, run_on}

-- no step is made there
stuck : (code : CodeBytes) (b : Bool) (s : State) → fetch code exit ≡ None → s.pc ≡ exit → move code b s ≡ Err BadFetch
stuck code true s none e = ap (λ f. skip_of f s) (ap (fetch code) e ∙ none)
stuck code false s none e = ap (λ f. step_of code f s) (ap (fetch code) e ∙ none)

moves_on : (code : CodeBytes) (b : Bool) (s t : State) → fetch code exit ≡ None → move code b s ≡ Ok t → s.pc ≢ exit
moves_on code b s t none m e = let q = sym m ∙ stuck code b s none e in absurd cc

pub not_yet : (code : CodeBytes) (skips : ℕ → Bool) (n i j : ℕ) (s t u : State) → fetch code exit ≡ None → run code skips n i s ≡ Ok t → j < n → run code skips j i s ≡ Ok u → u.pc ≢ exit
not_yet code skips zero i j s t u none r lt k = absurd (omega arith)
not_yet code skips (suc n) i j s t u none r lt k =
    let rest : run code skips (suc (n - j)) (i + j) u ≡ Ok t = sym (run_on code skips j (suc (n - j)) (suc n) i (i + j) s u (omega arith) refl k) ∙ r in
    let g = go_on_ok (move code (skips (i + j)) u) (run code skips (n - j) (suc (i + j))) t rest in
    moves_on code (skips (i + j)) u g.0 none g.1

-- what comes to the end has returned
pub returns_within : (code : CodeBytes) (skips : ℕ → Bool) (n : ℕ) (s t : State) → fetch code exit ≡ None → s.pc ≢ exit → t.pc ≡ exit → Comes code skips n 0 s t → ReturnsWithin code skips n 0 s t
returns_within code skips n s t none away over c = record {
  steps = c.steps;
  within = c.within;
  returns = record {
    some = some c.steps c.runs;
    goes = record { runs = c.runs; on = λ j u lt le k. not_yet code skips c.steps 0 j s t u none c.runs le k };
    over = over;
  };
}
  where
    some : (k : ℕ) → run code skips k 0 s ≡ Ok t → 0 < k
    some zero e = let same : s ≡ t = cc in absurd (away (ap (λ (u : State). u.pc) same ∙ over))
    some (suc k) e = omega arith

-- and what comes to a trap breaks there
pub breaks_at : (code : CodeBytes) (skips : ℕ → Bool) (n : ℕ) (s t : State) → fetch code exit ≡ None → run code skips n 0 s ≡ Ok t → skips n ≡ false → move code false t ≡ Err Trap → Breaks code skips n 0 s t Trap
breaks_at code skips n s t none r e traps = record {
  lasts = record {
    goes = record { runs = r; on = λ j u lt le k. not_yet code skips n 0 j s t u none r le k };
    still = λ lt over. let q = sym traps ∙ stuck code false t none over in absurd cc;
  };
  faults = (let e' : 0 + n ≡ n = omega arith in ap (λ k. move code (skips k) t) e') ∙ ap (λ b. move code b t) e ∙ traps;
}
