-- What holds of any bytes: they are one program's, or one number and one entry are given. Nothing here speaks of the reader. Assumes
-- nothing: this is a definition.
use Rattle.std.specs.Prelude.{◌≡◌, List, ℕ}
use Rattle.job.specs.Syntax.{Program}
use Rattle.job.specs.Encode.{encode}
use Rattle.job.specs.WellFormed.{WellFormed}
use Rattle.job.specs.Declined.{Declined}

pub data OneReply (b : List ℕ) : Type 0 where
  -- one program's, and no other's; no number is given
  program : (p : Program) → WellFormed p → b ≡ encode p
      → ((q : Program) → WellFormed q → b ≡ encode q → q ≡ p) → ((n e : ℕ) → Declined b n e → ⊥) → OneReply b
  -- one number with one entry, and no other; no program's
  refusal : (n e : ℕ) → Declined b n e
      → ((m f : ℕ) → Declined b m f → (m ≡ n) × (f ≡ e)) → ((p : Program) → WellFormed p → b ≡ encode p → ⊥) → OneReply b
