-- What a record of a run has beside its view: sizes, counts and clock in range, orders that name each ready, each waiting and each due
-- token once, and tables whose nodes, values, handles and due times are right and whose waiting tokens are blocked. The start has it, and
-- blanking keeps it where live tokens are in use. Assumes nothing.
use mathlib.Core.Path.{◌≡◌, refl, sym, ◌∙◌, ap, subst}
use mathlib.Core.Logic.{◌⊎◌, inl, inr}
use mathlib.Core.Bool.{Bool, true, false}
use mathlib.Core.List.{List, [], ◌∷◌}
use Prim.Native.Nat.{ℕ, zero, suc, ◌-◌, ◌<◌, ◌≤◌}
use native.Mathlib.Omega.{arith}
use lib.ListN.{length, get_or, replicate, length-set, length-replicate}
use lib.Dec.{eqb}
use Rattle.job.specs.Test.{padded, occurrences, once}
use Rattle.job.specs.Site.{last_time}
use Rattle.job.specs.Node.{Dag}
use Rattle.model.specs.Machine.Limits.{Limits}
use Rattle.model.specs.Machine.Blank.{blank_token, blank_cell, token_at, cell_at}
use Rattle.model.specs.Machine.State.{is_live, is_ready, is_waiting, is_due}
use Rattle.model.specs.Machine.InUse.{tokens_used, cells_used, rest_blanked, sweep}
use Rattle.model.specs.Machine.Rules.{held_in_range}
use Rattle.model.specs.Machine.Start.{start_token, start_machine}
use Rattle.model.specs.declared.token.State.{State}
use Rattle.model.specs.declared.token.State.TheVariants as states
use Rattle.model.specs.declared.token.Token.{Token}
use Rattle.model.specs.declared.cell.Cell.{Cell}
use Rattle.model.specs.declared.record.Machine.{Machine}
use Rattle.model.proofs.Machine.Rules.{ready-live}
use Rattle.job.proofs.Test.{never, eqb_same, ne_eqb}
use Rattle.model.proofs.Machine.Marks.{Marked}
use Rattle.model.proofs.Machine.InUse.{tokens-used}
use Rattle.model.proofs.Machine.Blanking.{length-kept, kept-marked, kept-cases}
use Rattle.model.proofs.Keeps.NamedOnce.{Names, Lines}
use Rattle.model.proofs.Keeps.Orders.{Orders, Timers}
use Rattle.model.proofs.Keeps.TableFacts.{Tables, TokenHolds, Idle, idle-holds, blank-holds, unbound-fit, tables-write, tables-swept}
use Rattle.job.proofs.Lists.{replicate-at}
use Rattle.model.proofs.Machine.TableRows.{token-same, token-other}

-- the sizes of the tables, the counts and the clock are in range
pub record Sizes (lim : Limits) (ts cs made t c time : ℕ) : Type 0 where
  pub token_places : ts ≡ lim.token_places
  pub cell_places : cs ≡ lim.cell_places
  pub calls : made ≤ lim.calls
  pub lasttoken : t < lim.token_places
  pub lastcell : c < lim.cell_places
  pub clock : time ≤ last_time

-- tables as long as before, and other places last given; the same places
module _ {lim : Limits} {ts cs ts' cs' calls t c clock : ℕ} (same : ts' ≡ ts) (alike : cs' ≡ cs) (S : Sizes lim ts cs calls t c clock) where
  pub sizes-new : {t' c' : ℕ} → t' < lim.token_places → c' < lim.cell_places → Sizes lim ts' cs' calls t' c' clock
  sizes-new a b =
      record {
        token_places = same ∙ S.token_places;
        cell_places = alike ∙ S.cell_places;
        calls = S.calls;
        lasttoken = a;
        lastcell = b;
        clock = S.clock;
      }

  pub sizes-as : Sizes lim ts' cs' calls t c clock
  sizes-as = sizes-new S.lasttoken S.lastcell

pub record Facts (lim : Limits) (d : Dag) (m : Machine) : Type 0 where
  pub sizes : Sizes lim (length m.tokens) (length m.cells) m.calls m.lasttoken m.lastcell m.clock
  pub queue : List ℕ
  pub waits : List ℕ
  pub timers : List ℕ
  pub orders : Orders m queue waits
  pub timed : Timers m timers
  pub lines : Lines m.tokens queue waits timers
  pub tables : Tables d m.tokens m.cells m.calls m.clock

-- the start
replicate-front : (n : ℕ) → 0 < n → replicate {A = ℕ} n 0 ≡ 0 ∷ replicate (n - 1) 0
replicate-front zero l = absurd (omega arith)
replicate-front (suc n) l = ap (λ k. 0 ∷ replicate k 0) (let z : n ≡ suc n - 1 = omega arith in z)

module _ (lim : Limits) (d : Dag) (some : 0 < lim.token_places) (cell : 0 < lim.cell_places) (goal : d.goal < length d.nodes) where
  abbrev begins : Machine
  begins = start_machine lim d.goal

  abbrev blanks : List Token
  blanks = replicate lim.token_places blank_token

  size : length blanks ≡ lim.token_places
  size = length-replicate lim.token_places blank_token

  sized : length begins.tokens ≡ lim.token_places
  sized = length-set blanks 0 (start_token d.goal) ∙ size

  all-zero : replicate {A = ℕ} lim.token_places 0 ≡ padded 0 (length begins.tokens) []
  unfolding padded
  all-zero = ap (λ n. replicate n 0) (let z = sized in let y : lim.token_places ≡ length begins.tokens - 0 = omega arith in y)

  start-orders : Orders begins (0 ∷ []) []
  unfolding padded
  start-orders =
      record {
        queue = replicate-front lim.token_places some ∙ ap (λ n. 0 ∷ replicate (n - 1) 0) (sym sized);
        queued = refl;
        waits = all-zero;
        waiting = refl;
      }

  first : token_at begins.tokens 0 ≡ start_token d.goal
  first = token-same blanks 0 (start_token d.goal) (let z = size in omega arith)

  other : (r : ℕ) → token_at begins.tokens (suc r) ≡ blank_token
  unfolding token_at
  other r = token-other blanks 0 (suc r) (start_token d.goal) (λ e. omega arith) ∙ replicate-at lim.token_places (suc r) blank_token

  -- a test of the start's tokens
  at-start : (of : State → Bool) (n : ℕ → ℕ) → n 0 ≡ once (of states.Ready) → ((r : ℕ) → n (suc r) ≡ once (of states.Blank))
      → (r : ℕ) → n r ≡ once (of (token_at begins.tokens r).state)
  at-start of n a b zero = a ∙ ap (λ (t : Token). once (of t.state)) (sym first)
  at-start of n a b (suc r) = b r ∙ ap (λ (t : Token). once (of t.state)) (sym (other r))

  start-lines : Lines begins.tokens (0 ∷ []) [] []
  unfolding occurrences is_ready is_waiting is_due
  start-lines =
      record {
        ready =
            at-start is_ready (λ r. occurrences r (0 ∷ [])) (let z : once (eqb 0 0) ≡ 1 = ap once (eqb_same 0) in omega arith)
            (λ r. let z : once (eqb (suc r) 0) ≡ 0 = ap once (ne_eqb (suc r) 0 (λ e. omega arith)) in omega arith);
        waiting = at-start is_waiting (λ r. occurrences r []) refl (λ r. refl);
        due = at-start is_due (λ r. occurrences r []) refl (λ r. refl);
      }

  blank-tables : Tables d blanks begins.cells 0 0
  unfolding token_at cell_at held_in_range
  blank-tables =
      record {
        tokens =
            λ p. subst (TokenHolds d begins.cells 0 0) (sym (replicate-at lim.token_places p blank_token)) (blank-holds (omega arith));
        cells = λ c. ap (λ (k : Cell). held_in_range k.value) (replicate-at lim.cell_places c blank_cell);
        apart =
            λ p q h e f.
            let y : states.Blank ≡ states.Called h = sym (ap (λ (t : Token). t.state) (replicate-at lim.token_places p blank_token))
            ∙ e in
            never cc;
      }

  pub start-facts : Facts lim d (start_machine lim d.goal)
  unfolding held_in_range
  start-facts =
      record {
        sizes =
            record {
              token_places = sized;
              cell_places = length-replicate lim.cell_places blank_cell;
              calls = omega arith;
              lasttoken = some;
              lastcell = omega arith;
              clock = omega arith;
            };
        queue = 0 ∷ [];
        waits = [];
        timers = [];
        orders = start-orders;
        timed = record { timers = all-zero; timed = refl };
        lines = start-lines;
        tables =
            tables-write blank-tables 0 (start_token d.goal) (let z = size in
            omega arith) (idle-holds goal refl unbound-fit Idle.ready) Idle.ready;
      }

-- live tokens are in use
abbrev pub LiveUsed : Machine → Type 0
LiveUsed m = (p : ℕ) → is_live (token_at m.tokens p).state ≡ true → Marked (tokens_used m) p

waiting-live : (s : State) → is_waiting s ≡ true → is_live s ≡ true
unfolding is_waiting is_live
waiting-live states.Blank e = e
waiting-live states.Ready e = refl
waiting-live (states.Waiting c) e = refl
waiting-live (states.Called h) e = refl
waiting-live (states.Due d) e = refl
waiting-live states.Frame e = e

due-live : (s : State) → is_due s ≡ true → is_live s ≡ true
unfolding is_due is_live
due-live states.Blank e = e
due-live states.Ready e = refl
due-live (states.Waiting c) e = refl
due-live (states.Called h) e = refl
due-live (states.Due d) e = refl
due-live states.Frame e = e

module _ {lim : Limits} {d : Dag} {m : Machine} (F : Facts lim d m) (live : LiveUsed m) where
  abbrev used : List Bool
  used = tokens_used m

  -- a line of live tokens stays
  line_stays : (of : State → Bool) → of states.Blank ≡ false → ((s : State) → of s ≡ true → is_live s ≡ true) → (l : List ℕ)
      → Names of m.tokens l → Names of (rest_blanked blank_token used m.tokens) l
  unfolding token_at
  line_stays of none lives l h r = go (of (token_at m.tokens r).state) refl (kept-cases blank_token used m.tokens r)
    where
      now : Token
      now = get_or (rest_blanked blank_token used m.tokens) r blank_token

      at : Token → ℕ
      at t = once (of t.state)

      go : (b : Bool) → of (get_or m.tokens r blank_token).state ≡ b → (now ≡ get_or m.tokens r blank_token) ⊎ (now ≡ blank_token)
          → occurrences r l ≡ at now
      go true e x =
          h r ∙ ap at (sym (kept-marked blank_token used m.tokens r (tokens-used m.tokens m.cells).size (live r (lives _ e))))
      go false e (inl x) = h r ∙ ap at (sym x)
      go false e (inr x) = h r ∙ (ap once (e ∙ sym none) ∙ ap at (sym x))

  pub sweep-facts : 0 < length d.nodes → Facts lim d (sweep m)
  unfolding sweep is_ready is_waiting is_due
  sweep-facts some =
      let lt = length-kept blank_token used m.tokens in
      let lc = length-kept blank_cell (cells_used m) m.cells in
      record {
        sizes = sizes-as lt lc F.sizes;
        queue = F.queue;
        waits = F.waits;
        timers = F.timers;
        orders =
            record {
              queue = F.orders.queue ∙ ap (λ n. padded 0 n F.queue) (sym lt);
              queued = F.orders.queued;
              waits = F.orders.waits ∙ ap (λ n. padded 0 n F.waits) (sym lt);
              waiting = F.orders.waiting;
            };
        timed = record { timers = F.timed.timers ∙ ap (λ n. padded 0 n F.timers) (sym lt); timed = F.timed.timed };
        lines =
            record {
              ready = line_stays is_ready refl ready-live F.queue F.lines.ready;
              waiting = line_stays is_waiting refl waiting-live F.waits F.lines.waiting;
              due = line_stays is_due refl due-live F.timers F.lines.due;
            };
        tables = tables-swept F.tables some used (cells_used m);
      }
