-- Jumps and calls.
use Rattle.std.specs.Prelude.{◌≢◌, ◌<◌, ℕ, not, Bool, false, [], ◌∷◌}
use Rattle.thumb_instr.specs.declared.conditions.Cond.TheVariants.{Al}
use Rattle.seq_core.specs.Sequences.{Carries, Settles}
use Rattle.seq_core.specs.Groups.{always, done, nothing, only, moving, branch_to, zero_to, link_to, jump_by, call_by, call_to}

-- CLASS ZEROBRANCH
abbrev pub ZeroBranchCarries : Type 0
ZeroBranchCarries = (nonzero : Bool) (n t end : ℕ) → Carries Settles end always (zero_to nonzero n t) nothing (zero_to (not nonzero) n end ∷ branch_to Al t ∷ [])

-- CLASS REGISTERJUMP
abbrev pub RegisterJumpCarries : Type 0
RegisterJumpCarries = (m end : ℕ) → Carries Settles end always (jump_by m) nothing (jump_by m ∷ [])

-- CLASS DIRECTCALL. The end, or the landing that stands there, is what it returns to: the law asks nothing of `back`.
abbrev pub DirectCallCarries : Type 0
DirectCallCarries = (t back end : ℕ) → Carries Settles end always (call_to t back) nothing (link_to back ∷ branch_to Al t ∷ [])

-- CLASS REGISTERCALL, of another register than lr, and of lr
abbrev pub RegisterCallCarries : Type 0
RegisterCallCarries = (m back end : ℕ) → m ≢ 14 → Carries Settles end always (call_by m back) nothing (link_to back ∷ jump_by m ∷ [])

abbrev pub LinkCallCarries : Type 0
LinkCallCarries = (back q end : ℕ) → q < 13 → Carries Settles end always (call_by 14 back) (only q) (done (moving false q 14) ∷ link_to back ∷ jump_by q ∷ [])
