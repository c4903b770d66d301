-- The reader accepts a list of bytes exactly when it is the encoding of a well-formed program, and the program read is that one.
-- Every list has one reply. Assumes nothing.
use mathlib.Core.Path.{◌≡◌, refl, ◌∙◌, ap, subst}
use mathlib.Core.Logic.{◌⊎◌, inl, inr, ◌↔◌}
use mathlib.Core.List.{List, []}
use Prim.Native.Nat.{ℕ, ◌<◌}
use Rattle.job.specs.Test.{All}
use Rattle.job.specs.Syntax.{Program}
use Rattle.job.specs.Encode.{encode}
use Rattle.job.specs.WellFormed.{WellFormed}
use Rattle.job.specs.Read.{Read, got, refused, read_bytes, Answer, accepted, declined, reader_answer, read_table}
use Rattle.job.proofs.Test.{never}
use Rattle.job.proofs.Read.{Yields, reads, Gives, given}
use Rattle.job.proofs.EncodeRead.{FoundBytes, bytes-found}
use Rattle.job.proofs.ReadEncode.{bytes_read}

-- what is accepted was read
pub record Accepted (b : List ℕ) (p : Program) : Type 0 where
  pub well-formed : WellFormed p
  pub exact : All (λ x. x < 256) b → b ≡ encode p

accepted-found : (b : List ℕ) (p : Program) → read_table b ≡ accepted p → Accepted b p
unfolding read_table reader_answer
accepted-found b p e = go (read_bytes b) (bytes-found b) e
  where
    go : (r : Read Program) → Yields (FoundBytes b) r → reader_answer r ≡ accepted p → Accepted b p
    go (got g) (reads f) e =
        let z : g.value ≡ p = cc in subst (Accepted b) z (record { well-formed = f.well-formed; exact = f.exact })
    go (refused m n) h e = never cc

-- (of any list, be its numbers bytes or not)
pub accepted-well-formed : (b : List ℕ) (p : Program) → read_table b ≡ accepted p → WellFormed p
accepted-well-formed b p e = (accepted-found b p e).well-formed

pub encode-accepted : (p : Program) → WellFormed p → read_table (encode p) ≡ accepted p
unfolding read_table reader_answer
encode-accepted p w = go (bytes_read w)
  where
    go : {r : Read Program} → Gives p [] r → reader_answer r ≡ accepted p
    go given = refl

pub accepted-exactly : (b : List ℕ) (p : Program) → All (λ x. x < 256) b → (read_table b ≡ accepted p) ↔ (WellFormed p × (b ≡ encode p))
accepted-exactly b p all =
    ((λ e. let h = accepted-found b p e in (h.well-formed, h.exact all)), λ h. ap read_table h.1 ∙ encode-accepted p h.0)

-- one reply

abbrev pub ReaderDeclines : List ℕ → Type 0
ReaderDeclines b = (n : ℕ) × (e : ℕ) × (read_table b ≡ declined n e)

-- every list has a reply, and not both
pub one-reply : (b : List ℕ) → ((p : Program) × (read_table b ≡ accepted p)) ⊎ ReaderDeclines b
one-reply b = go (read_table b) refl
  where
    go : (a : Answer) → read_table b ≡ a → ((p : Program) × (read_table b ≡ accepted p)) ⊎ ReaderDeclines b
    go (accepted p) h = inl (p, h)
    go (declined n e) h = inr (n, e, h)

pub declined-not-accepted : (b : List ℕ) (p : Program) (n e : ℕ) → read_table b ≡ declined n e → read_table b ≡ accepted p → ⊥
declined-not-accepted b p n e h k = never cc

-- a list of bytes is declined exactly when it encodes no well-formed program
pub declined-exactly : (b : List ℕ) → All (λ x. x < 256) b → ReaderDeclines b ↔ ((p : Program) → WellFormed p → b ≡ encode p → ⊥)
declined-exactly b all =
    ((λ d p w e. declined-not-accepted b p d.0 d.1 d.2 ((accepted-exactly b p all).1 (w, e))), λ none. go none (one-reply b))
  where
    go : ((p : Program) → WellFormed p → b ≡ encode p → ⊥) → ((p : Program) × (read_table b ≡ accepted p)) ⊎ ReaderDeclines b
        → ReaderDeclines b
    go none (inl h) = let k = (accepted-exactly b h.0 all).0 h.1 in absurd (none h.0 k.0 k.1)
    go none (inr d) = d
