-- The pieces of words, one more at a time.
use Rattle.std.proofs.Common.{◌≡◌, ◌<◌, ◌≤◌, ℕ, ◌+◌, List, [], ◌∷◌, ◌++◌, length, take, get_or, sym, subst, arith, Some}
use Rattle.std.specs.Prelude.{slice_get}
use Rattle.std.specs.List.{AllZip, zip}
use Rattle.std.proofs.lemmas.Option.{slice_get-get_or}
use Rattle.std.proofs.lemmas.List.{take_all}
use Rattle.elf_model.specs.Objects.{ObjectParts}
use Rattle.flow_recover.specs.declared.flows.PoolWord.{PoolWord}
use Rattle.branch_layout.proofs.Lists.{take_push, all_zip_push}
use Rattle.branch_layout.proofs.WithinFacts.{zip_at}
use Rattle.emit_object.specs.declared.code_pieces.Piece.{Piece}
use Rattle.emit_object.specs.CodePieces.{IsWordPiece}
use Rattle.emit_object.proofs.WordFacts.{zip_length}

module _ (o : ObjectParts) (words : List PoolWord) (places : List ℕ) (same : length places ≡ length words) (k : ℕ) (pieces : List Piece) (before : AllZip (IsWordPiece o) (take k (zip words places)) pieces) where
  pub words_more : (d : PoolWord) (p : Piece) (new : List Piece) → k < length words → IsWordPiece o (get_or words k d, get_or places k 0) p → new ≡ pieces ++ p ∷ [] → AllZip (IsWordPiece o) (take (k + 1) (zip words places)) new
  words_more d p new low is more =
      let e : PoolWord × ℕ = (get_or words k d, get_or places k 0) in
      let there : slice_get (zip words places) k ≡ Some e = zip_at words places k e.0 e.1 (slice_get-get_or words k d low) (slice_get-get_or places k 0 (omega arith)) in
      subst (AllZip (IsWordPiece o) (take (k + 1) (zip words places))) (sym more)
      (subst (λ (l : List (PoolWord × ℕ)). AllZip (IsWordPiece o) l (pieces ++ p ∷ [])) (sym (take_push (zip words places) k e there))
      (all_zip_push (IsWordPiece o) (take k (zip words places)) pieces e p before is))

  pub words_all : length words ≤ k → AllZip (IsWordPiece o) (zip words places) pieces
  words_all high =
      let long = zip_length words places same in
      subst (λ (l : List (PoolWord × ℕ)). AllZip (IsWordPiece o) l pieces) (take_all k (zip words places) (omega arith)) before
