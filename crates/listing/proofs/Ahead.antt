-- A section is listed along its code ranges.
use Rattle.std.proofs.Common.{ℕ, List, [], ◌∷◌, length, subst, append-nil}
use Rattle.elf_model.specs.Objects.{ObjectParts}
use Rattle.code_ranges.specs.declared.spans.Span.{Span}
use Rattle.listing.specs.Listings.{Listed}
use Rattle.listing.specs.Listings.Listed.{ended}
use Rattle.listing.specs.ListingSteps.{LeadsTo, IsThrough, IsAcross, AreAhead, AreApart, ListsContents}
use Rattle.listing.proofs.Leading.{leads_nowhere, leads_on}

-- how far a section is listed, which still has these code ranges
pub record IsListedTo (bytes : List ℕ) (spans : List Span) (x it : ℕ) (rest : List Span) (old new : List ℕ) : Type 0 where
  pub apart : AreApart bytes x rest
  pub ahead : (o : ObjectParts) (j : ℕ) → AreAhead o j bytes 0 spans → AreAhead o j bytes x rest
  pub leads : (o : ObjectParts) (j : ℕ) → AreAhead o j bytes 0 spans → LeadsTo o j bytes 0 0 x it old new

pub listed_to_start : (bytes : List ℕ) (spans : List Span) (text : List ℕ) → AreApart bytes 0 spans → IsListedTo bytes spans 0 0 spans text text
listed_to_start bytes spans text a = record { apart = a; ahead = λ o j h. h; leads = λ o j h. leads_nowhere o j bytes 0 0 text }

pub listed_to_next : (bytes : List ℕ) (spans : List Span) (x it after next : ℕ) (s : Span) (rest : List Span) (old mid more new : List ℕ) → IsListedTo bytes spans x it (s ∷ rest) old mid
    → IsAcross bytes x s.start it after mid more → IsThrough bytes s.start s.end after next more new → IsListedTo bytes spans s.end next rest old new
listed_to_next bytes spans x it after next s rest old mid more new h across through = record {
  apart = h.apart.3;
  ahead = λ o j a. (h.ahead o j a).2;
  leads = λ o j a.
      leads_on o j bytes 0 0 x it s.end next old mid new (h.leads o j a)
      (leads_on o j bytes x it s.start after s.end next mid more new (across o j (h.ahead o j a).0) (through o j (h.ahead o j a).1));
}

pub listed_to_end : (bytes : List ℕ) (spans : List Span) (x it after : ℕ) (old mid new : List ℕ) → IsListedTo bytes spans x it [] old mid → IsAcross bytes x (length bytes) it after mid new
    → (o : ObjectParts) (j : ℕ) → AreAhead o j bytes 0 spans → ListsContents o j bytes old new
listed_to_end bytes spans x it after old mid new h across o j a =
    let leads = leads_on o j bytes 0 0 x it (length bytes) after old mid new (h.leads o j a) (across o j (h.ahead o j a)) in
    record {
      lines = leads.lines;
      text_is = leads.text_is;
      listed = subst (λ (l : List (List ℕ)). Listed o j bytes 0 0 l) (append-nil leads.lines) (leads.listed [] (ended after));
    }
