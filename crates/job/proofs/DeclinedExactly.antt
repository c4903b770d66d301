-- "Given exactly if", for 1 to 8: the reader hands back a number and an entry exactly if document 01 gives them, and of any bytes exactly
-- one thing holds. The reader has one reply, it is right, and no two are right at once. Assumes nothing.
use mathlib.Core.Path.{◌≡◌, refl, ◌∙◌, ap₂, subst}
use mathlib.Core.List.{List}
use Prim.Native.Nat.{ℕ, ◌<◌}
use Rattle.job.specs.Test.{All}
use Rattle.job.specs.Syntax.{Program}
use Rattle.job.specs.Declined.{Declined}
use Rattle.job.specs.OneReply.{OneReply, program, refusal}
use Rattle.job.specs.Read.{Read, Answer, accepted, declined, reader_answer, read_table}
use Rattle.job.proofs.Read.{Says, reads, refuses}
use Rattle.job.proofs.Accepted.{accepted-exactly, declined-not-accepted}
use Rattle.job.proofs.Filling.{Fits, declined-same, fits-not-declined}
use Rattle.job.proofs.DeclinedReads.{bytes-say}

-- the reader's reply, and what it says
data Replies (b : List ℕ) : Answer → Type 0 where
  accepts : {p : Program} → Fits b → Replies b (accepted p)
  declines : {n e : ℕ} → Declined b n e → Replies b (declined n e)

replies : (b : List ℕ) → Replies b (read_table b)
unfolding read_table reader_answer
replies b = go (bytes-say b)
  where
    go : {r : Read Program} → Says (λ _. Fits b) (Declined b) r → Replies b (reader_answer r)
    go (reads h) = unfold reader_answer in accepts h
    go (refuses d) = unfold reader_answer in declines d

pub declined-if : (b : List ℕ) (n e : ℕ) → read_table b ≡ declined n e → Declined b n e
declined-if b n e q = go (subst (Replies b) q (replies b))
  where
    go : Replies b (declined n e) → Declined b n e
    go (declines d) = d

-- what is accepted is declined by no number
accepted-not-declined : (b : List ℕ) (p : Program) → read_table b ≡ accepted p → (n e : ℕ) → Declined b n e → ⊥
accepted-not-declined b p q n e d = go (subst (Replies b) q (replies b))
  where
    go : Replies b (accepted p) → ⊥
    go (accepts h) = fits-not-declined h d

pub declined-only-if : (b : List ℕ) (n e : ℕ) → Declined b n e → read_table b ≡ declined n e
declined-only-if b n e d = go (read_table b) refl
  where
    go : (r : Answer) → read_table b ≡ r → read_table b ≡ declined n e
    go (accepted p) q = absurd (accepted-not-declined b p q n e d)
    go (declined m f) q = let s = declined-same (declined-if b m f q) d in q ∙ ap₂ declined s.number s.entry

pub exactly-one : (b : List ℕ) → All (λ x. x < 256) b → OneReply b
exactly-one b all = go (read_table b) refl
  where
    go : (r : Answer) → read_table b ≡ r → OneReply b
    go (accepted p) q =
        let h = (accepted-exactly b p all).0 q in
        program p h.0 h.1 (λ o w e. let z = (accepted-exactly b o all).1 (w, e) in cc) (accepted-not-declined b p q)
    go (declined n e) q =
        refusal n e (declined-if b n e q)
        (λ m f d. let s = declined-same d (declined-if b n e q) in (s.number, s.entry))
        (λ p w i. declined-not-accepted b p n e q ((accepted-exactly b p all).1 (w, i)))
