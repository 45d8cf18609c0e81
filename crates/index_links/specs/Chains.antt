-- Chains of indexes, one for each head.
use Rattle.std.specs.Prelude.{◌≡◌, ◌+◌, ◌-◌, ◌<◌, ◌≤◌, ◌^◌, ℕ, List, [], ◌∷◌, Option, Some, None, length, slice_get, slice_set}
use Rattle.index_links.specs.Links.{Edge, IsFirstFrom}

-- the head of each link in the order in which they were added, the number of heads, and how many more links there is
-- room for
pub record ChainParts : Type 0 where
  pub heads : List ℕ
  pub size : ℕ
  pub spare : ℕ

-- the link at e belongs to the chain of h
abbrev pub Belongs : List ℕ → ℕ → ℕ → Type 0
Belongs heads h e = slice_get heads e ≡ Some h

-- the highest index that belongs to the chain of h, or that none does
abbrev pub IsLast : List ℕ → ℕ → Option ℕ → Type 0
IsLast heads h None = (k : ℕ) → ¬ Belongs heads h k
IsLast heads h (Some e) = Belongs heads h e × ((k : ℕ) → e < k → ¬ Belongs heads h k)

-- each chain goes from its first link over the next ones to its last
pub record AreChains (heads : List ℕ) (nexts firsts lasts : List (Option ℕ)) : Type 0 where
  pub linked : length nexts ≡ length heads
  pub ended : length lasts ≡ length firsts
  pub within : (e h : ℕ) → Belongs heads h e → h < length firsts
  pub first : (h : ℕ) (o : Option ℕ) → slice_get firsts h ≡ Some o → IsFirstFrom (Belongs heads h) 0 o
  pub next : (e h : ℕ) (o : Option ℕ) → Belongs heads h e → slice_get nexts e ≡ Some o → IsFirstFrom (Belongs heads h) (e + 1) o
  pub last : (h : ℕ) (o : Option ℕ) → slice_get lasts h ≡ Some o → IsLast heads h o

-- memory for more links, whose indexes stay small
pub record HasRoom (links spare capacity : ℕ) : Type 0 where
  pub small : links + spare < 2 ^ 32 - 1
  pub room : links + spare ≤ capacity

-- a link that comes behind the last one of its chain, or first in it
abbrev pub firsts_with : List (Option ℕ) → ℕ → Option ℕ → ℕ → List (Option ℕ)
firsts_with firsts h None e = slice_set firsts h (Some e)
firsts_with firsts h (Some last) e = firsts

abbrev pub nexts_with : List (Option ℕ) → Option ℕ → ℕ → List (Option ℕ)
nexts_with nexts None e = nexts
nexts_with nexts (Some last) e = slice_set nexts last (Some e)

-- edges by the heads of two lists of chains
abbrev pub pairs : List ℕ → List ℕ → List Edge
pairs [] targets = []
pairs (p ∷ sources) [] = []
pairs (p ∷ sources) (q ∷ targets) = record { source = p; target = q } ∷ pairs sources targets

-- the chains of sources and of targets have the same links
pub record ArePaired (out into : ChainParts) : Type 0 where
  pub links : length out.heads ≡ length into.heads
  pub points : out.size ≡ into.size
  pub spare : into.spare ≤ out.spare
