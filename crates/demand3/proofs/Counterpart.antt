-- Where the concrete machine has what the abstract machine's token stands for: a place, ready, waiting, called out or due later; a position
-- of the queue if it is ready, since the queue names each ready token; and the holder of its handle if it is called out, since open handles
-- differ. Assumes nothing.
use mathlib.Core.Path.{◌≡◌, refl, sym, ◌∙◌, ap, subst}
use mathlib.Core.Bool.{Bool, true, false, not}
use mathlib.Core.List.{List, [], ◌∷◌, ◌++◌}
use Prim.Native.Nat.{ℕ, zero, suc, ◌+◌, ◌<◌}
use native.Mathlib.Omega.{arith}
use lib.ListN.{length, get_or, take, length-take}
use lib.Seq.{get_or-take}
use lib.Dec.{eqb}
use lib.IntN.{ℤ}
use Rattle.std.specs.Prelude.{Some}
use Rattle.job.specs.Test.{◌or◌, for_some, occurrences, once, distinct}
use Rattle.job.specs.Node.{Dag}
use Rattle.model.specs.Machine.Limits.{Limits}
use Rattle.model.specs.Machine.Blank.{token_at}
use Rattle.model.specs.Machine.Rules.{open_handles, rules_hold}
use Rattle.model.specs.Machine.State.{is_ready, handle_of}
use Rattle.model.specs.Machine.Answer.{holder}
use Rattle.model.specs.Machine.Held.{Held, Place}
use Rattle.model.specs.declared.token.State.{State}
use Rattle.model.specs.declared.token.State.TheVariants as states
use Rattle.model.specs.declared.token.Token.{Token}
use Rattle.model.specs.declared.record.Machine.{Machine}
use Rattle.job.proofs.Test.{never, clash, eqb-eq, eqb_same, or_left, or_right, and_left, and_right}
use Rattle.model.proofs.Machine.Rules.{each-rule-holds, NamesOnce, names-once}
use Rattle.simulation.proofs.AbstractMachine as Abstract
use Rattle.simulation.proofs.AbstractMachine.{Binding, Frame, at, running, state}
use Rattle.simulation.proofs.Shuffle.{Split}
use Rattle.lockstep.proofs.Labels.{Labels}
use Rattle.lockstep.proofs.View.{World, HeldSeen, Unset, StateSeen, ready, waiting, called, due, PlaceSeen, TokenSeen, sees}
use Rattle.lockstep.proofs.Seen.{Core}
use Rattle.lockstep.proofs.Others.{Others, FoundOf, found_of, find-token, others, spot-token, acting-inside}
use Rattle.lockstep.proofs.Agrees.{Acting}
use Rattle.lockstep.proofs.AnswerAgrees.{holds-handle}

-- the place of one of the abstract machine's tokens, and how the token there stands
pub data Turn (M : Labels) (W : World) (L R : List Abstract.Token) : Abstract.Token → Type 0 where
  is-ready : {p n : ℕ} {B : List Binding} {F : List Frame} {U : List ℕ} {v : ℤ}
      → Acting M W p L R n B F U v → Turn M W L R (running (at n B F U) v)
  is-waiting : {p c n : ℕ} {B : List Binding} {F : List Frame} {U : List ℕ} {v : ℤ}
      → p < length W.tokens → (token_at W.tokens p).state ≡ states.Waiting c → PlaceSeen W M (token_at W.tokens p) n B F U
      → Turn M W L R (running (at n B F U) v)
  is-called : {p h n : ℕ} {B : List Binding} {F : List Frame} {U : List ℕ}
      → (token_at W.tokens p).state ≡ states.Called h → Others M W p L R → PlaceSeen W M (token_at W.tokens p) n B F U
      → Unset W.store U → TokenSeen W M (token_at W.tokens p) (Abstract.called_out h (at n B F U))
      → Turn M W L R (Abstract.called_out h (at n B F U))
  is-due : {time n : ℕ} {B : List Binding} {F : List Frame} {U : List ℕ} → Turn M W L R (Abstract.due_later time (at n B F U))

turn-of : {M : Labels} {W : World} {p n : ℕ} {B : List Binding} {F : List Frame} {U : List ℕ} {L R : List Abstract.Token}
    {s : State} {w : Held} {x : Abstract.Token}
    → (token_at W.tokens p).state ≡ s → (token_at W.tokens p).value ≡ w → Others M W p L R
    → PlaceSeen W M (token_at W.tokens p) n B F U → Unset W.store U → TokenSeen W M (token_at W.tokens p) x
    → StateSeen M n (at n B F U) s w x → Turn M W L R x
turn-of {M} {n = n} es ew o z un seen (ready {v = v} h) =
    is-ready (record { others = o; place = z; clear = un; value = subst (λ w. HeldSeen (M.value n) w v) (sym ew) h; state = es })
turn-of es ew o z un seen (waiting e h) = is-waiting (acting-inside o) es z
turn-of es ew o z un seen called = is-called es o z un seen
turn-of es ew o z un seen due = is-due

turn-token : {M : Labels} {W : World} {p : ℕ} {L R : List Abstract.Token} {x : Abstract.Token}
    → Others M W p L R → TokenSeen W M (token_at W.tokens p) x → Turn M W L R x
turn-token o (sees z un st) = turn-of refl refl o z un (sees z un st) st

pub turn : {M : Labels} {W : World} {A : List ℕ} {S L R : List Abstract.Token} {x : Abstract.Token}
    → Core M W A S → Split x S L R → Turn M W L R x
turn {M} {W} {A} {L = L} {R = R} {x = x} K i = go (find-token M W i K.seen)
  where
    go : FoundOf M W x A L R → Turn M W L R x
    go (found_of s) = turn-token (others K s) (spot-token s)

-- a ready token stands in the queue
index_of : (p : ℕ) (xs : List ℕ) → 0 < occurrences p xs → (k : ℕ) × (k < length xs) × (get_or xs k 0 ≡ p)
unfolding occurrences
index_of p [] l = absurd (omega arith)
index_of p (x ∷ xs) l = go (eqb p x) refl (λ i. index_of p xs i)
  where
    Index : List ℕ → Type 0
    Index ys = (k : ℕ) × (k < length ys) × (get_or ys k 0 ≡ p)

    go : (b : Bool) → eqb p x ≡ b → (0 < occurrences p xs → Index xs) → Index (x ∷ xs)
    go true e f = (0, omega arith, sym (eqb-eq p x e))
    go false e f = let r = f (let z : once (eqb p x) ≡ 0 = ap once e in omega arith) in (suc r.0, (let z = r.1 in omega arith), r.2)

order-index : (of : State → Bool) (ts : List Token) (array : List ℕ) (n p : ℕ) → NamesOnce of ts array n → p < length ts
    → of (token_at ts p).state ≡ true → (k : ℕ) × (k < n) × (get_or array k 0 ≡ p)
order-index of ts array n p o l e =
    let one : once (of (token_at ts p).state) ≡ 1 = ap once e in
    let there = o.counts p l in
    let r = index_of p (take n array) (omega arith) in
    let k : r.0 < n = (let y = r.1 in let z = length-take n array in omega arith) in
    (r.0, k, sym (get_or-take n array r.0 0 k) ∙ r.2)

pub queue-index : (lim : Limits) (d : Dag) (m : Machine) → rules_hold lim d m ≡ true → (p : ℕ) → p < length m.tokens
    → (token_at m.tokens p).state ≡ states.Ready → (k : ℕ) × (k < m.queued) × (get_or m.queue k 0 ≡ p)
unfolding is_ready
queue-index lim d m holds p l e =
    order-index is_ready m.tokens m.queue m.queued p
    (names-once is_ready m.tokens m.queue m.queued (each-rule-holds lim d m holds).queue) l (ap is_ready e)

-- the holder of an open handle: no other token has it
some-append-left : (test : ℕ → Bool) (xs ys : List ℕ) → for_some test xs ≡ true → for_some test (xs ++ ys) ≡ true
unfolding for_some ◌or◌
some-append-left test [] ys e = clash e refl
some-append-left test (x ∷ xs) ys e = go (test x) e (λ f. some-append-left test xs ys f)
  where
    go : (b : Bool) → (b or for_some test xs) ≡ true → (for_some test xs ≡ true → for_some test (xs ++ ys) ≡ true)
        → (b or for_some test (xs ++ ys)) ≡ true
    go true f g = refl
    go false f g = g f

some-append-right : (test : ℕ → Bool) (xs ys : List ℕ) → for_some test ys ≡ true → for_some test (xs ++ ys) ≡ true
unfolding for_some
some-append-right test [] ys e = e
some-append-right test (x ∷ xs) ys e = or_right (test x) (some-append-right test xs ys e)

has-handle : (h : ℕ) (s : State) → s ≡ states.Called h → for_some (eqb h) (handle_of s) ≡ true
unfolding for_some handle_of
has-handle h s e = ap (λ s. for_some (eqb h) (handle_of s)) e ∙ or_left false (eqb_same h)

handle-open : (h : ℕ) (ts : List Token) (p : ℕ) → (token_at ts p).state ≡ states.Called h → for_some (eqb h) (open_handles ts) ≡ true
unfolding open_handles token_at
handle-open h [] p e = never cc
handle-open h (t ∷ ts) zero e = some-append-left (eqb h) (handle_of t.state) (open_handles ts) (has-handle h t.state e)
handle-open h (t ∷ ts) (suc p) e = some-append-right (eqb h) (handle_of t.state) (open_handles ts) (handle-open h ts p e)

differ-behind : (s : State) (hs : List ℕ) → distinct (handle_of s ++ hs) ≡ true → distinct hs ≡ true
unfolding handle_of distinct
differ-behind states.Blank hs e = e
differ-behind states.Ready hs e = e
differ-behind (states.Waiting c) hs e = e
differ-behind (states.Called h) hs e = and_right _ _ e
differ-behind (states.Due d) hs e = e
differ-behind states.Frame hs e = e

differ-first : (h : ℕ) (hs : List ℕ) → distinct (h ∷ hs) ≡ true → for_some (eqb h) hs ≡ true → ⊥
unfolding distinct
differ-first h hs e f = clash (and_left _ _ e) (ap not f)

pub holder-finds : (h i : ℕ) (ts : List Token) (p : ℕ) → distinct (open_handles ts) ≡ true → (token_at ts p).state ≡ states.Called h
    → holder h i ts ≡ Some (i + p)
unfolding holder token_at open_handles handle_of
holder-finds h i [] p u e = never cc
holder-finds h i (t ∷ ts) zero u e = go _ (has-handle h t.state e)
  where
    go : (b : Bool) → b ≡ true → elim b as (λ b. Place) [ true ↦ Some i | false ↦ holder h (suc i) ts ] ≡ Some (i + 0)
    go true x = ap Some (let z : i ≡ i + 0 = omega arith in z)
    go false x = clash x refl
holder-finds h i (t ∷ ts) (suc p) u e =
    go (for_some (eqb h) (handle_of t.state)) refl
    (holder-finds h (suc i) ts p (differ-behind t.state (open_handles ts) u) e
    ∙ ap Some (let z : suc i + p ≡ i + suc p = omega arith in z))
  where
    go : (b : Bool) → for_some (eqb h) (handle_of t.state) ≡ b → holder h (suc i) ts ≡ Some (i + suc p)
        → elim b as (λ b. Place) [ true ↦ Some i | false ↦ holder h (suc i) ts ] ≡ Some (i + suc p)
    go true x r =
        absurd
        (differ-first h (open_handles ts) (ap (λ s. distinct (handle_of s ++ open_handles ts)) (sym (holds-handle h t.state x)) ∙ u)
        (handle-open h ts p e))
    go false x r = r

pub open-holder : (lim : Limits) (d : Dag) (m : Machine) → rules_hold lim d m ≡ true → (h p : ℕ)
    → (token_at m.tokens p).state ≡ states.Called h → holder h 0 m.tokens ≡ Some p
open-holder lim d m holds h p e =
    holder-finds h 0 m.tokens p (each-rule-holds lim d m holds).handles e ∙ ap Some (let z : 0 + p ≡ p = omega arith in z)
