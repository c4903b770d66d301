-- The search for a token that names the one at f as its caller, place by place. By induction over the places looked at. Assumes nothing.
use mathlib.Core.Path.{◌≡◌, refl, sym, ap, subst, ◌∙◌}
use mathlib.Core.Bool.{Bool, true, false}
use Prim.Native.Nat.{ℕ, ◌+◌, ◌<◌, ◌≤◌}
use native.Mathlib.Decide.{dec_lt}
use native.Mathlib.Omega.{arith}
use lib.ListN.{length, get_or}
use Rattle.std.specs.Prelude.{Some, None}
use Rattle.model.specs.declared.record.Machine.{Machine}
use Rattle.model.specs.Machine.Held.{Place}
use Rattle.model.specs.declared.token.Token.{Token}
use Rattle.record.specs.Layout.{place_number}
use Rattle.acts.specs.SharedFrames.{NamesAsCaller}
use Rattle.job.proofs.Test.{never, clash}
use Rattle.std.specs.Bool.{MatchBool}
use Rattle.std.specs.List.{AllWithin, HoldsAt, range_with_len}
use Rattle.std.proofs.lemmas.List.FromFn.{length-range_with_len, get_or-range_with_len}
use Rattle.returns.specs.Frame.{IsCaller}
use Rattle.model.proofs.Machine.TableRows.{token-outside}

-- a place by its number
pub place_of : (q : Place) (f n : ℕ) → n ≡ place_number q → n ≡ f + 1 → q ≡ Some f
place_of None f n e g = absurd (omega arith)
place_of (Some k) f n e g = ap Some (omega arith)

pub not-place : (q : Place) (f n : ℕ) → n ≡ place_number q → (n ≡ f + 1 → ⊥) → q ≡ Some f → ⊥
not-place q f n e g h = g (e ∙ ap place_number h)

pub same_place : (q r : Place) → place_number q ≡ place_number r → q ≡ r
same_place None None e = refl
same_place None (Some k) e = absurd (omega arith)
same_place (Some j) None e = absurd (omega arith)
same_place (Some j) (Some k) e = ap Some (omega arith)

-- the search over the first n places, where no token is behind them
pub searched : (m : Machine) (f n : ℕ) (r : Bool) → length m.tokens ≤ n
    → MatchBool r ((k : ℕ) × (k < length (range_with_len 0 n)) × HoldsAt (NamesAsCaller m f) (range_with_len 0 n) k)
    (AllWithin (λ i. NamesAsCaller m f i → ⊥) (range_with_len 0 n) 0 (length (range_with_len 0 n)))
    → IsCaller m f r
searched m f n true l h = record { some = λ e. (get_or (range_with_len 0 n) h.0 0, h.2 0); none = λ e. clash refl e }
searched m f n false l h = record { some = λ e. clash e refl; none = λ z j e. go j e (dec_lt j n) }
  where
    go : (j : ℕ) → NamesAsCaller m f j → Dec (j < n) → ⊥
    go j e (yes k) =
        let at : get_or (range_with_len 0 n) j 0 ≡ j = (let z : 0 + j ≡ j = omega arith in get_or-range_with_len 0 n j 0 k ∙ z) in
        h j 0 (omega arith) (omega (arith, length-range_with_len 0 n)) (subst (NamesAsCaller m f) (sym at) e)
    go j e (no k) =
        let w : None ≡ Some f =
        ap (λ (t : Token). t.caller) (sym (token-outside m.tokens j (omega arith))) ∙ e in
        never cc
