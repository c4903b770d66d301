-- A place that is not marked keeps one callee at most through every instruction: most leave each token its caller or none; a fork, a where
-- and a return mark the caller that gets one more; a call's frame was named by nobody. Assumes nothing.
use mathlib.Core.Path.{◌≡◌, refl, sym, ◌∙◌, ap, subst}
use mathlib.Core.Logic.{◌⊎◌, inl, inr}
use mathlib.Core.Bool.{Bool, true, false}
use mathlib.Core.List.{List}
use Prim.Native.Nat.{ℕ, ◌<◌}
use native.Mathlib.Decide.{ℕ_discrete, dec_lt}
use native.Mathlib.Omega.{arith}
use lib.ListN.{length, get_or, set, replicate, length-set, get_or-eq_default}
use lib.Seq.{get_or-set_same, get_or-set_other}
use Rattle.std.specs.Prelude.{Some, None}
use Rattle.model.specs.Machine.Blank.{blank_token, token_at}
use Rattle.model.specs.Machine.InUse.{tokens_used, sweep}
use Rattle.model.specs.Machine.Reply.{Effect, moves, waits, publishes, calls, refuses, accepted, outcome}
use Rattle.model.specs.Machine.Update.{put, with_tables}
use Rattle.model.specs.declared.record.Machine.{Machine}
use Rattle.model.specs.Machine.Held.{Place}
use Rattle.model.specs.declared.token.Token.{Token}
use Rattle.job.proofs.Test.{never, clash}
use Rattle.model.proofs.Machine.Refused.{After}
use Rattle.model.proofs.Machine.Blanking.{kept-marked, kept_free}
use Rattle.model.proofs.Keeps.Clean.{tokens_of}
use Rattle.acts.specs.Acting.{Lawful}
use Rattle.acts.specs.SharedFrames.{NamesAsCaller, OneCallee, caller_shared}
use Rattle.reach.specs.declared.used.Marks.{Marks}
use Rattle.job.proofs.Lists.{replicate-at}
use Rattle.model.proofs.Machine.TableRows.{token-same, token-other, token-outside}

pub nowhere-at : (f : ℕ) → None ≡ Some f → ⊥
nowhere-at f e = never cc

-- a blank token names nobody
pub blank-names : (m : Machine) (f i : ℕ) → token_at m.tokens i ≡ blank_token → NamesAsCaller m f i → ⊥
blank-names m f i e a = nowhere-at f (ap (λ (t : Token). t.caller) (sym e) ∙ a)

-- what is not marked after one more callee was not marked before, and is another place
marked_more : (s : List Bool) (g f : ℕ) → get_or (set s g true) f true ≡ false → (f ≡ g → ⊥) × (get_or s f true ≡ false)
marked_more s g f e = go (ℕ_discrete f g)
  where
    at : Dec (g < length s) → get_or (set s g true) g true ≡ true
    at (yes l) = get_or-set_same s g true true l
    at (no n) = get_or-eq_default (set s g true) true (let z = length-set s g true in omega arith)

    go : Dec (f ≡ g) → (f ≡ g → ⊥) × (get_or s f true ≡ false)
    go (yes q) = clash (at (dec_lt g (length s))) (ap (λ k. get_or (set s g true) k true) (sym q) ∙ e)
    go (no n) = (n, sym (get_or-set_other s g f true true n) ∙ e)

pub unshared : (q : Place) (s : List Bool) (f : ℕ) → get_or (caller_shared q s) f true ≡ false
    → (q ≡ Some f → ⊥) × (get_or s f true ≡ false)
unfolding caller_shared
unshared None s f e = (nowhere-at f, e)
unshared (Some g) s f e = let w = marked_more s g f e in (λ q. w.0 (let z : f ≡ g = cc in z), w.1)

-- no place that is not marked gets a callee
abbrev pub NoNewCallee : List Bool → (m n : Machine) → Type 0
NoNewCallee s m n = (f i : ℕ) → get_or s f true ≡ false → NamesAsCaller n f i → NamesAsCaller m f i

pub callees-kept : (s t : List Bool) (m n : Machine) → ((f : ℕ) → get_or t f true ≡ false → get_or s f true ≡ false) → NoNewCallee t m n
    → OneCallee s m → OneCallee t n
callees-kept s t m n more h one f i j e a b = one f i j (more f e) (h f i e a) (h f j e b)

-- blanking takes callers away
pub swept-names : (o : Machine) (f i : ℕ) → NamesAsCaller (sweep o) f i → NamesAsCaller o f i
unfolding sweep token_at
swept-names o f i a = go (get_or (tokens_used o) i true) refl
  where
    go : (b : Bool) → get_or (tokens_used o) i true ≡ b → NamesAsCaller o f i
    go true u = ap (λ (t : Token). t.caller) (sym (kept-marked blank_token (tokens_used o) o.tokens i (tokens_of o).size u)) ∙ a
    go false u = absurd (blank-names (sweep o) f i (kept_free blank_token (tokens_used o) o.tokens i u) a)

-- who names f after a token is written: that token, or another as before
pub put-names : (m : Machine) (p : ℕ) (t : Token) (f i : ℕ) → NamesAsCaller (put p t m) f i
    → ((i ≡ p) × (t.caller ≡ Some f)) ⊎ ((i ≡ p → ⊥) × NamesAsCaller m f i)
unfolding put with_tables
put-names m p t f i a = go (ℕ_discrete i p) (dec_lt p (length m.tokens))
  where
    here : i ≡ p → NamesAsCaller (put p t m) f p
    here q = ap (λ k. (token_at (set m.tokens p t) k).caller) (sym q) ∙ a

    go : Dec (i ≡ p) → Dec (p < length m.tokens) → ((i ≡ p) × (t.caller ≡ Some f)) ⊎ ((i ≡ p → ⊥) × NamesAsCaller m f i)
    go (yes q) (yes l) = inl (q, ap (λ (u : Token). u.caller) (sym (token-same m.tokens p t l)) ∙ here q)
    go (yes q) (no l) =
        absurd
        (blank-names (put p t m) f p (token-outside (set m.tokens p t) p (let z = length-set m.tokens p t in omega arith)) (here q))
    go (no n) d = inr (n, ap (λ (u : Token). u.caller) (sym (token-other m.tokens p i t n)) ∙ a)

pub swept-callees : (s : List Bool) (o : Machine) → OneCallee s o → OneCallee s (sweep o)
swept-callees s o one f i j e a b = one f i j e (swept-names o f i a) (swept-names o f j b)

-- an effect after which no place has a new callee
pub effect-callees : (s : List Bool) (m : Machine) (e : Effect) → After (NoNewCallee s m) e → OneCallee s m
    → OneCallee s (outcome m e).machine
unfolding After outcome accepted
effect-callees s m (moves n) h one = swept-callees s n (callees-kept s s m n (λ f e. e) h one)
effect-callees s m (waits n) h one = swept-callees s n (callees-kept s s m n (λ f e. e) h one)
effect-callees s m (publishes v n) h one = swept-callees s n (callees-kept s s m n (λ f e. e) h one)
effect-callees s m (calls k i vs n) h one = swept-callees s n (callees-kept s s m n (λ f e. e) h one)
effect-callees s m (refuses r) h one = one

-- m is a record and n the same with other orders: the token at p is written anew with its caller, or made blank
module _ (s : List Bool) (m n : Machine) (same : n.tokens ≡ m.tokens) (p : ℕ) where
  back : (f i : ℕ) → NamesAsCaller n f i → NamesAsCaller m f i
  back f i a = ap (λ ts. (token_at ts i).caller) (sym same) ∙ a

  pub put-callees : (u : Token) → ((f : ℕ) → u.caller ≡ Some f → NamesAsCaller n f p) → NoNewCallee s m (put p u n)
  put-callees u own f i e a = go (put-names n p u f i a)
    where
      go : ((i ≡ p) × (u.caller ≡ Some f)) ⊎ ((i ≡ p → ⊥) × NamesAsCaller n f i) → NamesAsCaller m f i
      go (inl w) = back f i (subst (NamesAsCaller n f) (sym w.0) (own f w.1))
      go (inr w) = back f i w.1

  pub blank-callees : NoNewCallee s m (put p blank_token n)
  blank-callees = put-callees blank_token (λ f e. absurd (nowhere-at f e))

-- where every place is marked nothing is asked
pub all-shared : {ws dag : List ℕ} {used : Marks} {m : Machine} → Lawful ws used dag m → OneCallee (replicate 64 true) m
all-shared l f i j e a b = clash (replicate-at 64 f true) e
