-- THE LAW OF WORKS: each keeps its promise, and what it accepts is neither refused nor stopped.
use Rattle.std.proofs.Common.{ℕ, List, [], ◌∷◌}
use Rattle.elf_model.specs.declared.refusals.Spot.{Spot}
use Rattle.guard_words.specs.Words.{Pair, LinkWords, RunWords, MakeWords}
use Rattle.guard_words.specs.Meanings.{Meaning, harden, link, run, list, make}
use Rattle.guard_cli.specs.HardenWork.{harden_work}
use Rattle.guard_cli.specs.LinkWork.{link_work}
use Rattle.guard_cli.specs.ListWork.{list_work}
use Rattle.guard_cli.specs.MachineRuns.{call_of, run_work}
use Rattle.guard_cli.specs.MakeWork.{make_work}
use Rattle.guard_cli.specs.Meant.{work_of}
use Rattle.guard_cli.proofs.Accepted.{hardenable_is_accepted, image_is_accepted, readable_is_accepted}
use Rattle.guard_cli.proofs.Answered.{IsLawful}
use Rattle.guard_cli.proofs.Promised.{harden_promised}
use Rattle.guard_cli.proofs.RunAnswered.{call_is_accepted, words_return}

harden_lawful : (pairs : List Pair) → IsLawful (harden_work pairs)
harden_lawful pairs = record {
  promises = λ files saves said old new makes told loaded saved. harden_promised pairs files saves said old new makes told loaded saved;
  not_refused = λ loaded spot accepts refuses. hardenable_is_accepted loaded spot accepts refuses;
  not_stopped = λ loaded outcome line accepts other stops. stops;
}

link_lawful : (l : LinkWords) → IsLawful (link_work l)
link_lawful l = record {
  promises = λ loaded saves report old new makes told has saved. tt;
  not_refused = λ loaded spot accepts refuses. image_is_accepted l.at loaded spot accepts refuses;
  not_stopped = λ loaded outcome line accepts other stops. stops;
}

list_lawful : (input : List ℕ) → IsLawful (list_work input)
list_lawful input = record {
  promises = λ loaded saves report old new makes told has saved. tt;
  not_refused = not_refused;
  not_stopped = λ loaded outcome line accepts other stops. stops;
}
  where
    not_refused : (loaded : List (List ℕ)) (spot : Spot) → (list_work input).Accepts loaded → (list_work input).Refuses loaded spot → ⊥
    not_refused [] spot a r = a
    not_refused (file ∷ []) spot a r = readable_is_accepted file spot a r
    not_refused (file ∷ x ∷ more) spot a r = a

run_lawful : (r : RunWords) → IsLawful (run_work r)
run_lawful r = record {
  promises = λ loaded saves report old new makes told has saved. tt;
  not_refused = λ loaded spot accepts refuses. call_is_accepted (call_of r accepts.0) loaded spot accepts.2 refuses;
  not_stopped = λ loaded outcome line accepts other stops. words_return r loaded outcome line accepts other stops;
}

make_lawful : (m : MakeWords) → IsLawful (make_work m)
make_lawful m = record {
  promises = λ loaded saves report old new makes told has saved. tt;
  not_refused = λ loaded spot accepts refuses. refuses;
  not_stopped = λ loaded outcome line accepts other stops. stops;
}

pub work_is_lawful : (m : Meaning) → IsLawful (work_of m)
work_is_lawful (harden pairs) = harden_lawful pairs
work_is_lawful (link l) = link_lawful l
work_is_lawful (run r) = run_lawful r
work_is_lawful (list input) = list_lawful input
work_is_lawful (make m) = make_lawful m
