-- The search for the token under a handle, place by place, and its answer: the token was called out, so it was not ready, and the queue has
-- room for it. Assumes nothing.
use mathlib.Core.Path.{◌≡◌, refl, sym, ap, subst, ◌∙◌}
use mathlib.Core.Bool.{Bool, true, false}
use mathlib.Core.List.{List}
use Prim.Native.Nat.{ℕ, suc, ◌+◌, ◌*◌, ◌<◌, ◌≤◌}
use native.Mathlib.Decide.{ℕ_discrete, dec_lt}
use native.Mathlib.Numerals.{add-one}
use native.Mathlib.Omega.{arith}
use lib.ListN.{length, get_or, drop, drop_of_length-le, get_or-eq_default}
use lib.Seq.{drop-cons}
use lib.Dec.{eqb}
use lib.IntN.{ℤ}
use Rattle.std.specs.Prelude.{Option, Some, None, Ok, Err}
use Rattle.job.specs.Test.{for_some, ◌or◌}
use Rattle.job.specs.Node.{Dag}
use Rattle.model.specs.Machine.Limits.{paper}
use Rattle.model.specs.Machine.Blank.{blank_token, token_at, is_place}
use Rattle.model.specs.Machine.Rules.{rules_hold}
use Rattle.model.specs.Machine.State.{handle_of}
use Rattle.model.specs.Machine.Reply.{refuses, moves}
use Rattle.model.specs.Machine.Update.{with_value, with_state, put, enqueue}
use Rattle.model.specs.Machine.Answer.{holder, answered}
use Rattle.model.specs.declared.reply.Refusal.TheVariants as refusals
use Rattle.model.specs.Machine.Held.{Place}
use Rattle.model.specs.declared.token.State.{State}
use Rattle.model.specs.declared.token.State.TheVariants as states
use Rattle.model.specs.declared.token.Token.{Token}
use Rattle.model.specs.declared.record.Machine.{Machine}
use Rattle.job.proofs.Test.{clash, eq-eqb, ne_eqb}
use Rattle.model.proofs.Machine.Within.{holder-holds}
use Rattle.record.specs.Holds.{Codes, Holds}
use Rattle.record.specs.Layout.{state_kind, state_number}
use Rattle.reach.specs.Marks.{BlankFrom}
use Rattle.reach.proofs.ListLoops.{steady}
use Rattle.sites.specs.Answer.{answer_says, answered_by, Answered}
use Rattle.sites.proofs.RuleFacts.{tokens-size, queue-room}
use Rattle.model.proofs.Run.AnswerStands.{handle-busy}

-- a turn of the search
module _ (h i : ℕ) (ts : List Token) (d : Token) (l : i < length ts) {x : Place} (so_far : x ≡ holder h i (drop i ts)) where
  turn : (b : Bool) → for_some (eqb h) (handle_of (get_or ts i d).state) ≡ b
      → x ≡ elim b [ true ↦ Some i | false ↦ holder h (suc i) (drop (suc i) ts) ]
  unfolding holder
  turn b e = so_far ∙ ap (holder h i) (drop-cons ts i d l) ∙ rw (e, holder)

  pub holder-found : for_some (eqb h) (handle_of (get_or ts i d).state) ≡ true → x ≡ Some i
  holder-found e = turn true e

  pub holder-on : for_some (eqb h) (handle_of (get_or ts i d).state) ≡ false → x ≡ holder h (i + 1) (drop (i + 1) ts)
  holder-on e = turn false e ∙ ap (λ k. holder h k (drop k ts)) (sym (add-one i))

pub holder-none : (h i : ℕ) (ts : List Token) → length ts ≤ i → {x : Place} → x ≡ holder h i (drop i ts) → x ≡ None
unfolding holder
holder-none h i ts l e = e ∙ ap (holder h i) (drop_of_length-le ts {i = i} l)

-- no blank token is under a handle
pub holder-blank : (h end : ℕ) (ts : List Token) → length ts ≡ 64 → end ≤ 64 → ((i : ℕ) → end ≤ i → i < 64 → token_at ts i ≡ blank_token)
    → holder h end (drop end ts) ≡ None
unfolding token_at for_some handle_of
holder-blank h end ts l inside blank =
    steady (λ (i : ℕ). holder h i (drop i ts)) end 64 inside
    (λ i from to. holder-on h i ts blank_token (omega arith) refl
    (ap (λ (t : Token). for_some (eqb h) (handle_of t.state)) (blank i from to)))
    ∙ holder-none h 64 ts (omega arith) refl

module _ (d : Dag) (m : Machine) (k : rules_hold paper d m ≡ true) (h p : ℕ) (e : holder h 0 m.tokens ≡ Some p) where
  -- the token
  open_at : for_some (eqb h) (handle_of (token_at m.tokens p).state) ≡ true
  open_at =
      let (i, a, b) = holder-holds h 0 m.tokens p e in
      let same : i ≡ p = omega arith in
      subst (λ q. for_some (eqb h) (handle_of (token_at m.tokens q).state) ≡ true) same b

  open-inside : p < 64
  unfolding token_at for_some handle_of
  open-inside = go (dec_lt p (length m.tokens))
    where
      n : length m.tokens ≡ 64
      n = tokens-size d m k

      go : Dec (p < length m.tokens) → p < 64
      go (yes l) = let z = n in omega arith
      go (no f) = clash open_at
          (ap (λ (t : Token). for_some (eqb h) (handle_of t.state)) (get_or-eq_default m.tokens blank_token {n = p} (omega arith)))

  pub open-room : m.queued < 64
  open-room = queue-room d m k p open-inside (handle-busy h _ open_at)

or_nothing : (b : Bool) → b ≡ (b or false)
unfolding ◌or◌
or_nothing true = refl
or_nothing false = refl

-- the test of one token by its words
module _ (h k n : ℕ) (s : State) (ek : k ≡ state_kind s) (en : n ≡ state_number s) where
  pub open-called : k ≡ 3 → eqb h n ≡ for_some (eqb h) (handle_of s)
  unfolding for_some handle_of
  open-called = go s ek en
    where
      go : (s : State) → k ≡ state_kind s → n ≡ state_number s → k ≡ 3 → eqb h n ≡ for_some (eqb h) (handle_of s)
      go states.Blank ek en e = absurd (omega arith)
      go states.Ready ek en e = absurd (omega arith)
      go (states.Waiting c) ek en e = absurd (omega arith)
      go (states.Called g) ek en e = ap (eqb h) en ∙ or_nothing (eqb h g)
      go (states.Due t) ek en e = absurd (omega arith)
      go states.Frame ek en e = absurd (omega arith)

  pub open-not-called : (k ≡ 3 → ⊥) → false ≡ for_some (eqb h) (handle_of s)
  unfolding for_some handle_of
  open-not-called = go s ek
    where
      go : (s : State) → k ≡ state_kind s → (k ≡ 3 → ⊥) → false ≡ for_some (eqb h) (handle_of s)
      go states.Blank ek f = refl
      go states.Ready ek f = refl
      go (states.Waiting c) ek f = refl
      go (states.Called g) ek f = absurd (f ek)
      go (states.Due t) ek f = refl
      go states.Frame ek f = refl

  small : k < 6
  small = go s ek
    where
      go : (s : State) → k ≡ state_kind s → k < 6
      go states.Blank e = omega arith
      go states.Ready e = omega arith
      go (states.Waiting c) e = omega arith
      go (states.Called g) e = omega arith
      go (states.Due t) e = omega arith
      go states.Frame e = omega arith

  -- .. by both at once
  pub open-is : 4294967296 * n + k ≡ 4294967296 * h + 3 → for_some (eqb h) (handle_of s) ≡ true
  open-is e =
      let l = small in
      let called : k ≡ 3 = omega arith in
      sym (open-called called) ∙ eq-eqb h n (omega arith)

  pub open-is-not : (4294967296 * n + k ≡ 4294967296 * h + 3 → ⊥) → for_some (eqb h) (handle_of s) ≡ false
  open-is-not f = go (ℕ_discrete k 3)
    where
      go : Dec (k ≡ 3) → for_some (eqb h) (handle_of s) ≡ false
      go (yes called) = sym (open-called called) ∙ ne_eqb h n (λ e. f (omega arith))
      go (no other) = sym (open-not-called other)

-- the effect of an answer is the record after it, or the refusal
pub answered-moves : (m : Machine) (v : ℤ) (q : Place) → is_place q ≡ true → answered m v q ≡ moves (answered_by m v q)
unfolding answered answered_by is_place
answered-moves m v None e = clash e refl
answered-moves m v (Some p) e = refl

pub answered-refuses : (m : Machine) (v : ℤ) (q : Place) → is_place q ≡ false → answered m v q ≡ refuses 12
unfolding answered is_place
answered-refuses m v None e = refl
answered-refuses m v (Some p) e = clash refl e

-- what the code has done, by the place that the search gave
module _ (end h : ℕ) (v : ℤ) (before after : List ℕ) (o : Option ℕ)
    (found : (m : Machine) → Codes before m → BlankFrom m end → holder h 0 m.tokens ≡ o) where
  pub not-answered : o ≡ None → after ≡ before → Answered end h v (Err refusals.NotOpen) before after
  unfolding is_place answered_by answer_says
  not-answered none e =
      record {
        says = λ m k b. sym (ap (λ q. answer_says (is_place q)) (found m k.codes b ∙ none));
        does =
            λ d m k b r.
            subst (Holds after) (sym (ap (answered_by m v) (found m k.codes b ∙ none)))
            (subst (λ ws. Holds ws m) (sym e) k);
        stays = (refl, e);
      }

  pub is-answered : (p : ℕ) → o ≡ Some p
      → ((m : Machine) → Holds before m → m.queued < 64
      → Holds after (enqueue p (put p (with_state states.Ready (with_value (Some v) (token_at m.tokens p))) m)))
      → Answered end h v (Ok tt) before after
  unfolding is_place answered_by answer_says
  is-answered p some e =
      record {
        says = λ m k b. sym (ap (λ q. answer_says (is_place q)) (found m k.codes b ∙ some));
        does =
            λ d m k b r.
            let at : holder h 0 m.tokens ≡ Some p = found m k.codes b ∙ some in
            subst (Holds after) (sym (ap (answered_by m v) at)) (e m k (open-room d m r h p at));
        stays = tt;
      }
