-- One look at each row: its rules, whether it is in use or blank, and what the orders name, row after row. By induction over the rows: the
-- test of one comes before those behind it. Assumes nothing.
use mathlib.Core.Path.{◌≡◌, refl, sym, ◌∙◌, ap, ap₂}
use mathlib.Core.Bool.{Bool, true, false, ◌&&◌, ◌||◌}
use mathlib.Core.List.{List, [], ◌∷◌}
use Prim.Native.Nat.{ℕ, suc, ◌+◌, ◌<◌, ◌≤◌}
use native.Mathlib.Omega.{arith}
use lib.Dec.{eqb}
use lib.ListN.{length, get_or, take, drop}
use lib.Seq.{take_all}
use Rattle.model.specs.declared.token.State.TheVariants as states
use Rattle.job.specs.Test.{◌and◌, for_all, all_from, once}
use Rattle.job.specs.Node.{Dag}
use Rattle.model.specs.Machine.Blank.{blank_token, token_at, token_is_blank}
use Rattle.model.specs.Machine.Rules.{rest_is_blank}
use Rattle.model.specs.Machine.State.{is_blank_state}
use Rattle.model.specs.declared.token.Token.{Token}
use Rattle.model.specs.declared.record.Machine.{Machine}
use Rattle.job.proofs.Both.{both, both_is, and-true, and-false, regroup}
use Rattle.job.proofs.Lists.{get_d_any}
use Rattle.job.proofs.Test.{and_left}
use Rattle.record.specs.Layout.{state_kind}
use Rattle.row_rules.specs.RowRules.{token_rule}
use Rattle.order_rules.proofs.OrderCounts.{from-turn}
use Rattle.order_rules.specs.OrderCounts.{named_by_orders, each_from, unnamed}
use Rattle.rules.proofs.RestBlank.{passed, pass-turn, marked-one, other-one, rest-turns, each-rest, each_both}
use Rattle.model.proofs.Machine.Blanking.{state-blank}

module _ (d : Dag) (m : Machine) (used : List Bool) (queue waits timers : List ℕ) where
  abbrev rule : Token → Bool
  rule = token_rule d m

  abbrev named : ℕ → Bool
  named i = all_from (named_by_orders queue waits timers) 0 (take i m.tokens)

  -- the first i pass
  abbrev pub seen : ℕ → Bool
  seen i = passed rule token_is_blank used m.tokens i and named i

  pub seen_none : true ≡ seen 0
  unfolding for_all all_from rest_is_blank ◌and◌
  seen_none = refl

  seen-turn : (i : ℕ) {ok b a : Bool} → i < length used → i < length m.tokens → ok ≡ seen i
      → b ≡ (rule (token_at m.tokens i) and (get_or used i false || token_is_blank (token_at m.tokens i)))
      → a ≡ named_by_orders queue waits timers i (token_at m.tokens i) → (ok && b && a) ≡ seen (i + 1)
  unfolding token_at
  seen-turn i {ok} {b} {a} k l e f g =
      ap (λ (o : Bool). o && b && a) (e ∙ sym (both_is _ _))
      ∙ shuffled (passed rule token_is_blank used m.tokens i) (named i) b a
      ∙ both (pass-turn rule token_is_blank used m.tokens i blank_token k l refl f)
      (from-turn (named_by_orders queue waits timers) m.tokens i blank_token l refl g)
    where
      shuffled : (x y b a : Bool) → ((x && y) && b && a) ≡ ((x && b) && (y && a))
      shuffled true true true a = refl
      shuffled true true false a = refl
      shuffled true false true a = refl
      shuffled true false false a = refl
      shuffled false y b a = refl

  -- a token in use is tested for its rules and its names
  pub used_turn : (i : ℕ) {ok b a : Bool} → i < length used → i < length m.tokens → ok ≡ seen i → get_or used i false ≡ true
      → b ≡ rule (token_at m.tokens i) → a ≡ named_by_orders queue waits timers i (token_at m.tokens i) → (ok && b && a) ≡ seen (i + 1)
  used_turn i k l e u f g =
      seen-turn i k l e (f ∙ marked-one {used = get_or used i false} (rule (token_at m.tokens i)) (token_is_blank (token_at m.tokens i)) u)
      g

  -- any other for being blank and named by none
  abbrev none : ℕ → Bool
  none = unnamed queue waits timers

  vacant : (i : ℕ) (t : Token) (b : Bool) → token_is_blank t ≡ b
      → (none i and b) ≡ (b && named_by_orders queue waits timers i t)
  unfolding token_is_blank
  vacant i t true e =
      let blank : t.state ≡ states.Blank = state-blank t.state (and_left (is_blank_state t.state) _ e) in
      and-true (none i)
      ∙ ap
      (λ s.
      eqb (get_or queue i 0) (once (eqb (state_kind s) 1))
      and eqb (get_or waits i 0) (once (eqb (state_kind s) 2))
      and eqb (get_or timers i 0) (once (eqb (state_kind s) 4)))
      (sym blank)
  vacant i t false e = and-false (none i)

  pub vacant-turn : (i : ℕ) {ok v : Bool} → i < length used → i < length m.tokens → ok ≡ seen i → get_or used i false ≡ false
      → (token_is_blank (token_at m.tokens i) ≡ true → rule (token_at m.tokens i) ≡ true)
      → v ≡ (none i and token_is_blank (token_at m.tokens i)) → (ok && v) ≡ seen (i + 1)
  vacant-turn i {ok} {v} k l e u f g =
      let t = token_at m.tokens i in
      ap (λ (x : Bool). ok && x) (g ∙ vacant i t (token_is_blank t) refl)
      ∙ sym (grouped ok (token_is_blank t) (named_by_orders queue waits timers i t))
      ∙ seen-turn i k l e (other-one {used = get_or used i false} (rule t) (token_is_blank t) u f) refl
    where
      grouped : (a b c : Bool) → (a && b && c) ≡ (a && (b && c))
      grouped true b c = refl
      grouped false b c = refl

  -- of those from a place on none is in use: they are tested together
  pub seen-rest : (from n : ℕ) {ok a b : Bool} → from + n ≡ length m.tokens → length used ≡ length m.tokens
      → ((i : ℕ) → from ≤ i → i < length m.tokens → get_or used i true ≡ false)
      → ((i : ℕ) → token_is_blank (token_at m.tokens i) ≡ true → rule (token_at m.tokens i) ≡ true)
      → ok ≡ seen from → a ≡ each_from none from n → b ≡ for_all token_is_blank (drop from m.tokens) → (ok && (a && b)) ≡ seen (from + n)
  unfolding token_at
  seen-rest from n {ok} long same unmarked holds e f g =
      ap₂ (λ (x y : Bool). x && y) e
      (both f (g ∙ sym (each-rest token_is_blank m.tokens blank_token from n long))
      ∙ sym (each_both none (λ i. token_is_blank (token_at m.tokens i)) from n))
      ∙ rest-turns (λ i. none i and token_is_blank (token_at m.tokens i)) seen from n (λ i k b.
      vacant-turn i (omega arith) (omega arith) refl (get_d_any used i false true (omega arith) ∙ unmarked i k (omega arith)) (holds i)
      refl)

  pub seen_done : (i : ℕ) → length m.tokens ≤ i
      → seen i ≡ ((for_all rule m.tokens and rest_is_blank token_is_blank used m.tokens) and all_from (named_by_orders queue waits timers) 0
      m.tokens)
  seen_done i l =
      ap (λ (ts : List Token). (for_all rule ts and rest_is_blank token_is_blank used ts) and all_from (named_by_orders queue waits
      timers) 0 ts)
      (take_all i m.tokens l)

-- two tests of each element with its index
pub from-both : {A : Type 0} (f g : ℕ → A → Bool) (j : ℕ) (xs : List A)
    → all_from (λ p x. f p x and g p x) j xs ≡ (all_from f j xs and all_from g j xs)
unfolding all_from ◌and◌
from-both f g j [] = refl
from-both f g j (x ∷ xs) = ap (◌and◌ (f j x and g j x)) (from-both f g (suc j) xs) ∙ regroup (f j x) (g j x) (all_from f (suc j) xs)
    (all_from g (suc j) xs)
