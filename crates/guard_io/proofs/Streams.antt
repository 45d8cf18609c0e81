-- What a writer holds after some writes of one text.
use Rattle.std.proofs.Common.{◌+◌, ℕ, List, ◌++◌, Option, None, Some, take, drop, ap, ◌∙◌, append_assoc}
use Rattle.std.proofs.Math.Seq.{take-add}
use Rattle.std.specs.Io.KnownBytes.{Appends}

appends_both : (a b c : Option (List ℕ)) (first next : List ℕ) → Appends a b first → Appends b c next → Appends a c (first ++ next)
appends_both None b c first next p q = tt
appends_both (Some x) None c first next p q = absurd p
appends_both (Some x) (Some y) None first next p q = absurd q
appends_both (Some x) (Some y) (Some z) first next p q = q ∙ ap (λ l. l ++ next) p ∙ append_assoc x first next

-- after the first bytes of a text, some of those behind them
pub Appends-more : (a b c : Option (List ℕ)) (text : List ℕ) (done count : ℕ) → Appends a b (take done text) → Appends b c (take count (drop done text)) → Appends a c (take (done + count) text)
Appends-more a b c text done count p q =
    rw (take-add done count text) (appends_both a b c (take done text) (take count (drop done text)) p q)
