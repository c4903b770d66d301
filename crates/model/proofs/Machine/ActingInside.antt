-- What a token in use writes when it acts is inside what is in use and the places that are new: the tokens that it writes name what it
-- named, itself and the new cell, and nothing else. Assumes nothing.
use mathlib.Core.Path.{◌≡◌, refl}
use mathlib.Core.Logic.{inl, inr}
use mathlib.Core.List.{List}
use Prim.Native.Nat.{ℕ}
use lib.ListN.{set}
use Rattle.std.specs.Prelude.{Some, None}
use Rattle.job.specs.Syntax.{Param}
use Rattle.job.specs.Node.{Dag}
use Rattle.model.specs.Machine.Limits.{Limits}
use Rattle.model.specs.Machine.Blank.{token_at}
use Rattle.model.specs.Machine.Update.{with_node, with_binding, in_cell, with_state}
use Rattle.model.specs.Machine.Step.{callee}
use Rattle.model.specs.declared.token.Slot.TheVariants as slots
use Rattle.model.specs.declared.token.State.TheVariants as states
use Rattle.model.specs.declared.token.Token.{Token}
use Rattle.model.specs.declared.record.Machine.{Machine}
use Rattle.model.proofs.Machine.Reach.{names_at}
use Rattle.model.proofs.Machine.Rules.{EachRuleHolds}
use Rattle.model.proofs.Machine.Inside.{Fits, fits-map, With, inside-token, inside-cell, inside-put}
use Rattle.model.proofs.Machine.WrittenTokens.{fits-same, fits-binding, fits-callee}
use Rattle.model.proofs.Machine.Used.{Used, UsedCell, InsideUsed, used-fits, inside-old}

module _ (lim : Limits) (d : Dag) (m : Machine) (rules : EachRuleHolds lim d m) (p : ℕ) (in_use : Used m p) where
  abbrev t : Token
  t = token_at m.tokens p

  acts : Fits (Used m) (UsedCell m) t
  acts = used-fits m p in_use

  -- a token written where the acting one stands
  pub write-inside : (u : Token) → Fits (Used m) (UsedCell m) u → InsideUsed m (Used m) (UsedCell m) (set m.tokens p u) m.cells
  write-inside u f = inside-put (inside-old lim d m rules) p u in_use f

  pub fork-inside : (q left right : ℕ)
      → InsideUsed m (With (Used m) q) (UsedCell m) (set (set m.tokens p (with_node left t)) q (with_node right t)) m.cells
  unfolding with_node
  fork-inside q left right =
      inside-token (write-inside (with_node left t) (fits-same refl refl refl acts)) q (with_node right t)
      (fits-map (λ i x. inl x) (λ c x. x) (fits-same refl refl refl acts))

  pub call-inside : (q root : ℕ) (ps : List Param) (next : ℕ)
      → InsideUsed m (With (Used m) q) (UsedCell m)
      (set (set m.tokens p (with_node next (with_state states.Frame t))) q (callee (Some p) t root ps)) m.cells
  unfolding with_node with_state
  call-inside q root ps next =
      inside-token (write-inside (with_node next (with_state states.Frame t)) (fits-same refl refl refl acts)) q
      (callee (Some p) t root ps)
      (fits-callee (Some p) root ps (names_at (With (Used m) q) p (inl in_use)) (fits-map (λ i x. inl x) (λ c x. x) acts))

  pub split-inside : (q c x left right : ℕ)
      → InsideUsed m (With (Used m) q) (With (UsedCell m) c)
      (set (set m.tokens p (with_node left (with_binding x (slots.Cell c) t))) q (in_cell c (with_node right t)))
      (set m.cells c (record { parent = t.cell; value = None }))
  unfolding with_node in_cell
  split-inside q c x left right = inside-token (inside-put cell p _ in_use binds) q _ belongs
    where
      cell : InsideUsed m (Used m) (With (UsedCell m) c) m.tokens (set m.cells c (record { parent = t.cell; value = None }))
      cell = inside-cell (inside-old lim d m rules) c _ (λ b e. inl (acts.cells.cell b e))

      acts-still : Fits (Used m) (With (UsedCell m) c) t
      acts-still = fits-map (λ i y. y) (λ b y. inl y) acts

      binds : Fits (Used m) (With (UsedCell m) c) (with_node left (with_binding x (slots.Cell c) t))
      binds = fits-same refl refl refl (fits-binding x (slots.Cell c) (λ b e. inr (let z : b ≡ c = cc in z)) acts-still)

      belongs : Fits (With (Used m) q) (With (UsedCell m) c) (in_cell c (with_node right t))
      belongs =
          record {
            caller = λ i e. inl (acts.caller i e);
            cells = record { cell = names_at (With (UsedCell m) c) c (inr refl); binds = acts-still.cells.binds };
          }
