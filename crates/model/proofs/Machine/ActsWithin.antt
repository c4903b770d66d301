-- What each node does leaves the record within the limits: the token that acts is in use, so what it names is, and a call adds at most the
-- places that it was tested for. Assumes nothing.
use mathlib.Core.Path.{refl}
use mathlib.Core.List.{List}
use Prim.Native.Nat.{ℕ}
use lib.ListN.{set}
use Rattle.job.specs.Node.{Node, Dag}
use Rattle.model.specs.Machine.Limits.{Limits}
use Rattle.model.specs.Machine.Blank.{blank_token, token_at}
use Rattle.model.specs.Machine.InUse.{sweep, Within}
use Rattle.model.specs.Machine.Reply.{Effect}
use Rattle.model.specs.Machine.Update as Update
use Rattle.model.specs.Machine.Step as Step
use Rattle.model.specs.Machine.Update.{with_orders}
use Rattle.model.specs.Machine.Step.{choke_token, act}
use Rattle.model.specs.declared.token.Token.{Token}
use Rattle.model.specs.declared.record.Machine.{Machine}
use Rattle.model.proofs.Machine.Refused.{After}
use Rattle.model.proofs.Machine.Rules.{EachRuleHolds}
use Rattle.model.proofs.Machine.Inside.{Fits, fits-blank, inside-map, inside-set}
use Rattle.model.proofs.Machine.WrittenTokens.{fits-same, fits-value, fits-empty, fits-callee}
use Rattle.model.proofs.Machine.ActCases.{Anew, Does, act-does}
use Rattle.model.proofs.Machine.WrittenTokens.{choked-cases, choked-blank, choked-live, choked-fits}
use Rattle.model.proofs.Machine.Used.{Used, UsedCell, InsideUsed, used-fits, used-parent, inside-old, none-new, token-new, both-new}
use Rattle.model.proofs.Machine.ActingInside.{write-inside, fork-inside, call-inside, split-inside}

-- The token at a place p in use acts; only the tables matter, so the orders may be any
module _
    (lim : Limits) (d : Dag) (m : Machine) (rules : EachRuleHolds lim d m) (old : Within lim m) (p : ℕ) (in_use : Used m p) (q w : List ℕ)
  where
    abbrev pub acting : Token
    acting = token_at m.tokens p

    abbrev pub at : Machine
    at = with_orders q w m

    abbrev pub WithinAfter : Effect → Type 0
    WithinAfter = After (λ o. Within lim (sweep o))

    acts : Fits (Used m) (UsedCell m) acting
    acts = used-fits m p in_use

    anew-fits : {N : Node} {u : Token} → Anew d at acting N u → Fits (Used m) (UsedCell m) u
    unfolding Update.with_node Update.with_value Update.with_state with_orders
    anew-fits (Anew.assigned {x = x} e) = fits-same refl refl refl (fits-value x _ acts)
    anew-fits (Anew.removed {x = x} e) = fits-same refl refl refl (fits-empty x acts)
    anew-fits (Anew.replied e s) = fits-same refl refl refl acts
    anew-fits (Anew.became {ps = ps} e i) = fits-callee acting.caller _ ps acts.caller acts
    anew-fits (Anew.back {f = f} e i) = fits-same refl refl refl (used-fits m f (acts.caller f i))

    writes : (u : Token) → Fits (Used m) (UsedCell m) u → InsideUsed m (Used m) (UsedCell m) (set m.tokens p u) m.cells
    writes = write-inside lim d m rules p in_use

    does-within : {N : Node} {e : Effect} → Does lim d m at p acting N e → WithinAfter e
    unfolding After Step.ended Step.goes_on Step.waited Step.called_out Step.forked Step.entered Step.split Step.after_choke
        Update.enqueue Update.new_token Update.new_cell Update.put Update.with_tables Update.with_timers with_orders Update.with_counts
        Update.with_node Update.with_state Update.in_cell
    does-within (Does.refused r) = tt
    does-within Does.ends = none-new lim d m old _ (writes blank_token (fits-blank (Used m) (UsedCell m)))
    does-within Does.publishes = none-new lim d m old _ (writes blank_token (fits-blank (Used m) (UsedCell m)))
    does-within (Does.goes_on a) = none-new lim d m old _ (writes _ (anew-fits a))
    does-within (Does.waits e c) = none-new lim d m old _ (writes _ (fits-same refl refl refl acts))
    does-within (Does.due_later time e i l) = none-new lim d m old _ (writes _ (fits-same refl refl refl acts))
    does-within (Does.calls_out e i l) = none-new lim d m old _ (writes _ (fits-same refl refl refl acts))
    does-within (Does.forks {l = l} {r = r} e t) = token-new lim d m old _ _ t (fork-inside lim d m rules p in_use _ l r)
    does-within (Does.enters {ps = ps} {k = k} e i t) = token-new lim d m old _ _ t (call-inside lim d m rules p in_use _ _ ps k)
    does-within (Does.splits {x = x} {l = l} {r = r} e t c) =
        both-new lim d m old _ _ _ t c (split-inside lim d m rules p in_use _ _ x l r)
    does-within (Does.chokes {c = c} e i) =
        none-new lim d m old _
        (inside-set
        (inside-map (inside-old lim d m rules) (choke_token m.cells c) (choked-blank m.cells c)
        (λ t. choked-live (choked-cases m.cells c t))
        (λ t. choked-fits (choked-cases m.cells c t)))
        c _ (acts.cells.cell c i) (used-parent m c (acts.cells.cell c i)))

    pub acted : (n : Node) → WithinAfter (act lim d m at p acting n)
    acted n = does-within (act-does lim d m at p acting n)
