-- What an instruction can do: one walk over the instruction table, by the tests that it makes. A law of every instruction goes by the
-- eleven cases of `Does`, each with the node and the tests that lead to it, and not by the table. Assumes nothing.
use mathlib.Core.Path.{◌≡◌, refl}
use mathlib.Core.Bool.{Bool, true, false}
use mathlib.Core.List.{List}
use mathlib.Core.Option.{some}
use Prim.Native.Nat.{ℕ, ◌<◌, ◌≤◌}
use lib.Dec.{ltb}
use lib.IntN.{ℤ, pos}
use Rattle.std.specs.Prelude.{Some, None}
use Rattle.job.specs.Site.{BuiltinReply, gives, silent, later, due_time, is_builtin, builtin}
use Rattle.job.specs.Syntax.{Param}
use Rattle.job.specs.Node.{Node, Dag, body_at}
use Rattle.job.specs.Tail.{is_tail}
use Rattle.model.specs.Machine.Limits.{Limits}
use Rattle.model.specs.Machine.Blank.{token_at}
use Rattle.model.specs.Machine.Reply.{Effect, moves, refuses, unless}
use Rattle.model.specs.Machine.Update.{with_node, with_binding, with_value, with_state}
use Rattle.model.specs.Machine.Step as Step
use Rattle.model.specs.Machine.Step.{LookUpResult, values, unset, look, act, value_of, after_choke, has_token_place, has_cell_place}
use Rattle.model.specs.Machine.Step.{token_place, cell_place}
use Rattle.model.specs.declared.token.Slot.TheVariants as slots
use Rattle.model.specs.Machine.Held.{Place}
use Rattle.model.specs.declared.token.State.TheVariants as states
use Rattle.model.specs.declared.token.Token.{Token}
use Rattle.model.specs.declared.record.Machine.{Machine}
use Rattle.job.proofs.Test.{ltb-lt, not-ltb-le}
use Rattle.model.proofs.Machine.Deferred.{in_time, deferred-cases}
use Rattle.model.proofs.Machine.Added.{tokens_added, cells_added}

-- an instruction that the table refuses with 14: what it names is not there
pub data Lacks (t : Token) : Node → Type 0 where
  no_frame : t.caller ≡ None → Lacks t Node.return
  no_cell : t.cell ≡ None → Lacks t Node.choke
  no_node : Lacks t Node.unknown

-- why the instruction N is refused, by the number; `before` is the machine before the call, m the one whose token t acts
pub data Refusing (lim : Limits) (d : Dag) (before m : Machine) (t : Token) (N : Node) : ℕ → Type 0 where
  tokens_full : has_token_place lim before ≡ false → tokens_added d N ≡ 1 → Refusing lim d before m t N 10
  cells_full : has_cell_place lim before ≡ false → cells_added N ≡ 1 → Refusing lim d before m t N 11
  calls_full : lim.calls ≤ m.calls → Refusing lim d before m t N 13
  lacking : Lacks t N → Refusing lim d before m t N 14

-- the value that a built-in site gives to a call with these parameters at once; rwait's is 0
pub data Said (m : Machine) (t : Token) (s : ℕ) (ps : List Param) : ℤ → Type 0 where
  given : {vs : List ℤ} {v : ℤ} → look m.cells t.binds ps ≡ values vs → builtin s vs ≡ gives v → Said m t s ps v
  at_once : Said m t s ps (pos 0)

-- what the token goes on as
pub data Anew (d : Dag) (m : Machine) (t : Token) (N : Node) : Token → Type 0 where
  assigned : {x k : ℕ} → N ≡ Node.assign x k → Anew d m t N (with_node k (with_binding x (slots.Value (value_of t.value)) t))
  removed : {x k : ℕ} → N ≡ Node.remove x k → Anew d m t N (with_node k (with_binding x slots.Empty t))
  replied : {s : ℕ} {ps : List Param} {k : ℕ} {v : ℤ} → N ≡ Node.site s ps k → Said m t s ps v
      → Anew d m t N (with_node k (with_value (Some v) t))
  became : {e : ℕ} {ps : List Param} {k : ℕ} → N ≡ Node.call e ps k → is_tail d k ≡ true
      → Anew d m t N (Step.callee t.caller t (body_at d e).root ps)
  back : {f : ℕ} → N ≡ Node.return → t.caller ≡ Some f
      → Anew d m t N (with_state states.Ready (with_value t.value (token_at m.tokens f)))

-- what the instruction N of the token t at p does
pub data Does (lim : Limits) (d : Dag) (before m : Machine) (p : ℕ) (t : Token) (N : Node) : Effect → Type 0 where
  refused : {r : ℕ} → Refusing lim d before m t N r → Does lim d before m p t N (refuses r)
  ends : Does lim d before m p t N (moves (Step.ended m p))
  publishes : {v : ℤ} → Does lim d before m p t N (Effect.publishes v (Step.ended m p))
  goes_on : {u : Token} → Anew d m t N u → Does lim d before m p t N (Step.goes_on m p u)
  waits : {s : ℕ} {ps : List Param} {k c : ℕ} → N ≡ Node.site s ps k → look m.cells t.binds ps ≡ unset c
      → Does lim d before m p t N (Step.waited m p t c)
  due_later : {s : ℕ} {ps : List Param} {k due : ℕ} (time : ℤ) → N ≡ Node.site s ps k → due_time m.clock time ≡ some due
      → m.clock < due → Does lim d before m p t N (moves (in_time m p t k due))
  calls_out : {s : ℕ} {ps : List Param} {k : ℕ} {vs : List ℤ} → N ≡ Node.site s ps k → look m.cells t.binds ps ≡ values vs
      → m.calls < lim.calls → Does lim d before m p t N (Step.called_out m p t s vs k)
  forks : {l r : ℕ} → N ≡ Node.fork l r → has_token_place lim before ≡ true
      → Does lim d before m p t N (Step.forked m p t (token_place before) l r)
  enters : {e : ℕ} {ps : List Param} {k : ℕ} → N ≡ Node.call e ps k → is_tail d k ≡ false → has_token_place lim before ≡ true
      → Does lim d before m p t N (Step.entered m p t (token_place before) (body_at d e).root ps k)
  splits : {x l r : ℕ} → N ≡ Node.where' x l r → has_token_place lim before ≡ true → has_cell_place lim before ≡ true
      → Does lim d before m p t N (Step.split m p t (token_place before) (cell_place before) x l r)
  chokes : {c : ℕ} → N ≡ Node.choke → t.cell ≡ Some c → Does lim d before m p t N (moves (after_choke c t.value m))

module _ (lim : Limits) (d : Dag) (before m : Machine) (p : ℕ) (t : Token) where
  abbrev At : Node → Effect → Type 0
  At = Does lim d before m p t

  tested : {N : Node} (b : Bool) (n : ℕ) {e : Effect} → (b ≡ false → Refusing lim d before m t N n) → (b ≡ true → At N e)
      → At N (unless b n e)
  unfolding unless
  tested true n f g = g refl
  tested false n f g = Does.refused (f refl)

  site-does : (s : ℕ) (ps : List Param) (k : ℕ) (l : LookUpResult) → look m.cells t.binds ps ≡ l
      → At (Node.site s ps k) (Step.call_site lim m p t s k l)
  unfolding Step.call_site Step.replied
  site-does s ps k (unset c) e = Does.waits refl e
  site-does s ps k (values vs) e = go (is_builtin s)
    where
      said : (r : BuiltinReply) → builtin s vs ≡ r → At (Node.site s ps k) (Step.replied m p t k r)
      said (gives v) i = Does.goes_on (Anew.replied refl (Said.given e i))
      said silent i = Does.ends
      said (later time) i =
          deferred-cases m p t k (λ o e. due_time m.clock time ≡ o → At (Node.site s ps k) e) (λ j. Does.ends)
          (λ due l j. Does.goes_on (Anew.replied {s = s} {ps = ps} refl Said.at_once))
          (λ due l j. Does.due_later {s = s} {ps = ps} time refl j l)
          (due_time m.clock time) refl

      go : (b : Bool)
          → At (Node.site s ps k)
          (elim b [
            | true ↦ Step.replied m p t k (builtin s vs)
            | false ↦ unless (ltb m.calls lim.calls) 13 (Step.called_out m p t s vs k)
          ])
      go true = said (builtin s vs) refl
      go false = tested _ 13 (λ f. Refusing.calls_full (not-ltb-le _ _ f)) (λ f. Does.calls_out refl e (ltb-lt _ _ f))

  body-does : (e : ℕ) (ps : List Param) (k : ℕ) (tail : Bool) → is_tail d k ≡ tail
      → At (Node.call e ps k) (Step.call_body lim before m p t (body_at d e).root ps k tail)
  unfolding Step.call_body Step.becomes_callee tokens_added
  body-does e ps k true i = Does.goes_on (Anew.became refl i)
  body-does e ps k false i = tested _ 10 (λ f. Refusing.tokens_full f (rw i refl)) (λ f. Does.enters refl i f)

  return-does : (q : Place) → t.caller ≡ q → At Node.return (Step.returned m p t q)
  unfolding Step.returned
  return-does None e = Does.refused (Refusing.lacking (no_frame e))
  return-does (Some f) e = Does.goes_on (Anew.back refl e)

  choke-does : (q : Place) → t.cell ≡ q → At Node.choke (Step.choke_at m t q)
  unfolding Step.choke_at
  choke-does None e = Does.refused (Refusing.lacking (no_cell e))
  choke-does (Some c) e = Does.chokes refl e

  pub act-does : (N : Node) → Does lim d before m p t N (act lim d before m p t N)
  unfolding act tokens_added cells_added
  act-does Node.stop = Does.ends
  act-does Node.publish = Does.publishes
  act-does (Node.fork l r) = tested _ 10 (λ f. Refusing.tokens_full f refl) (λ f. Does.forks refl f)
  act-does (Node.assign x k) = Does.goes_on (Anew.assigned refl)
  act-does (Node.remove x k) = Does.goes_on (Anew.removed refl)
  act-does (Node.where' x l r) =
      tested _ 10 (λ f. Refusing.tokens_full f refl) (λ f. tested _ 11 (λ g. Refusing.cells_full g refl) (λ g. Does.splits refl f g))
  act-does (Node.site s ps k) = site-does s ps k _ refl
  act-does (Node.call e ps k) = body-does e ps k (is_tail d k) refl
  act-does Node.return = return-does t.caller refl
  act-does Node.choke = choke-does t.cell refl
  act-does Node.unknown = Does.refused (Refusing.lacking no_node)
