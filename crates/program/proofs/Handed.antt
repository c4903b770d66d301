-- What a writer holds of a text that is handed on piece by piece: its first bytes, so many as were handed on. Assumes nothing.
use Rattle.std.proofs.Common.{◌≡◌, ℕ, ◌+◌, min, List, ◌++◌, Option, Result, Ok, Err, OnErr, length, take, drop}
use Rattle.std.proofs.Common.{sym, ap, ◌∙◌, subst, arith}
use Rattle.std.specs.Io.KnownBytes.{Appends}
use Rattle.std.proofs.KnownBytes.{Appends-trans}
use Rattle.std.proofs.lemmas.List.{take_min, take-take}
use lib.Seq.{take-add, take_all}
use Rattle.streams.specs.Parts.{AppendsPart}

-- what holds at all holds of an error
pub on_err : {T E P : Type 0} (r : Result T E) → P → OnErr r P
on_err (Ok x) p = tt
on_err (Err e) p = p

-- a writer that held a before the first piece and b before this one, the next
module _ (a b c : Option (List ℕ)) (text piece : List ℕ) (from : ℕ) (next : piece ≡ take (length piece) (drop from text))
    (before : Appends a b (take from text)) where
  -- all of it was written
  pub handed : Appends b c piece → Appends a c (take (from + length piece) text)
  handed p =
      subst (Appends a c) (ap (λ l. take from text ++ l) next ∙ sym (take-add from (length piece) text))
      (Appends-trans a b c _ piece before p)

  -- its first bytes were written
  pub handed_part : AppendsPart b c piece → AppendsPart a c text
  handed_part (n, p) =
      let few : ℕ = min n (length piece) in
      let first : take n piece ≡ take few (drop from text) =
      sym (take_min n piece) ∙ ap (take few) next ∙ take-take few (length piece) (drop from text) (omega arith) in
      let joined = ap (λ l. take from text ++ l) first ∙ sym (take-add from few text) in
      (from + few, subst (Appends a c) joined (Appends-trans a b c _ _ before p))

  -- it was the last
  pub handed_all : from + length piece ≡ length text → Appends b c piece → Appends a c text
  handed_all e p = subst (Appends a c) (take_all (from + length piece) text (omega arith)) (handed p)
