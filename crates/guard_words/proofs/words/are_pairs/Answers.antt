use Rattle.std.proofs.Common.{string_bytes, arith}
use Rattle.guard_words.proofs.Pairs.{texts_are, texts_of}
use Rattle.guard_words.proofs.words.are_pairs.Goals as goal
use Rattle.guard_words.proofs.words.are_pairs.Goals.{then-names-ne0-via-then-names-ne0, then-names-ne0-via-else-names-ne0+then-pairs-eq0, then-names-ne0-via-else-names-ne0+else-pairs-eq0+then-pairs-gt16}

pub returns-then-names-ne0 : goal.returns-then-names-ne0
returns-then-names-ne0 c = (
  λ h. absurd (cc),
  λ h.
      let t = texts_of string_bytes c.args.names.now h in
      let e = t.1 in
      let low = t.2 in
      let high = t.3 in
      elim c.then-names-ne0.branch [
        | then-names-ne0-via-then-names-ne0 w ↦ absurd (omega arith)
        | then-names-ne0-via-else-names-ne0+then-pairs-eq0 w ↦ absurd (omega arith)
        | then-names-ne0-via-else-names-ne0+else-pairs-eq0+then-pairs-gt16 w ↦ absurd (omega arith)
      ],
)

pub returns : goal.returns
returns c = (
  λ h. texts_are string_bytes c.args.names.now (omega arith) (omega arith) (omega arith) (c.are_file_names.ensures.0 h),
  λ h. let t = texts_of string_bytes c.args.names.now h in c.are_file_names.ensures.1 t.4,
)
