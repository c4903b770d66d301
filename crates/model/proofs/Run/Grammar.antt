-- Every byte that `orcrun` prints is of a line of the grammar, and the lines stand in its order: line by line, from what is printed.
-- Assumes nothing.
use mathlib.Core.Path.{◌≡◌, refl, sym, ◌∙◌, ap, subst}
use mathlib.Core.Bool.{true, false}
use mathlib.Core.List.{List, [], ◌∷◌, ◌++◌, map, append_assoc, append-nil}
use Prim.Native.Nat.{ℕ, zero, suc, ◌+◌, ◌/◌, ◌%◌, ◌<◌}
use native.Mathlib.Decide.{dec_lt}
use native.Mathlib.Omega.{arith}
use lib.ListN.{length, take}
use lib.Dec.{ltb}
use lib.IntN.{ℤ, pos, negsuc}
use Rattle.job.specs.Test.{All, none, more}
use Rattle.job.specs.Decimal.{ascii, decimal_digits, decimal, signed_decimal}
use Rattle.job.specs.Node.{Dag}
use Rattle.job.specs.Entry.{table_length}
use Rattle.job.specs.Read.{Answer, accepted, declined, read_table}
use Rattle.job.specs.Construct.{construct}
use Rattle.model.specs.Machine.Limits.{Limits, paper}
use Rattle.model.specs.Output.Line.{Line, call, publish, refused, end, line_of, text_of, text_of_all}
use Rattle.model.specs.Output.Orcrun.{reported_lines, orcrun}
use Rattle.model.specs.Output.Printed.{call_lines, accepted_steps, Ends, Printed}
use Rattle.model.specs.Output.Grammar.{Numeral, SignedNumeral, rest_of_line, ReplyLine, LineSequence, OneNotice, WholeOutput}
use Rattle.model.specs.Run.Call.{Call, runner, outcome_of}
use Rattle.model.specs.declared.record.Machine.{Machine}
use Rattle.model.specs.declared.reply.Reply.{Reply}
use Rattle.model.specs.declared.reply.Reply.TheVariants as replies
use Rattle.job.proofs.Test.{lt-ltb, le-not-ltb}
use Rattle.model.proofs.Run.Printing.{orcrun-long, orcrun-declines, orcrun-prints}

-- numerals
digits-numeral : (k n : ℕ) → Numeral (decimal_digits (suc k) n)
unfolding decimal_digits
digits-numeral zero n = go (dec_lt n 10)
  where
    go : Dec (n < 10) → Numeral (elim (ltb n 10) as (λ b. List ℕ) [ true ↦ (48 + n) ∷ [] | false ↦ [] ++ ((48 + n % 10) ∷ []) ])
    go (yes l) = rw (lt-ltb n 10 l) (Numeral.last l)
    go (no l) = rw (le-not-ltb n 10 (omega arith)) (Numeral.last {d = n % 10} (omega arith))
digits-numeral (suc k) n = go (dec_lt n 10) (digits-numeral k (n / 10))
  where
    go : Dec (n < 10) → Numeral (decimal_digits (suc k) (n / 10))
        → Numeral (elim (ltb n 10) as (λ b. List ℕ) [
          | true ↦ (48 + n) ∷ []
          | false ↦ decimal_digits (suc k) (n / 10) ++ ((48 + n % 10) ∷ [])
        ])
    go (yes l) h = rw (lt-ltb n 10 l) (Numeral.last l)
    go (no l) h = rw (le-not-ltb n 10 (omega arith)) (Numeral.more {d = n % 10} h (omega arith))

decimal-numeral : (n : ℕ) → Numeral (decimal n)
unfolding decimal
decimal-numeral n = digits-numeral 19 n

signed-numeral : (v : ℤ) → SignedNumeral (signed_decimal v)
unfolding signed_decimal
signed-numeral (pos n) = SignedNumeral.positive (decimal-numeral n)
signed-numeral (negsuc n) = SignedNumeral.negative (decimal-numeral (suc n))

all-signed : (vs : List ℤ) → All SignedNumeral (map signed_decimal vs)
all-signed [] = none
all-signed (v ∷ vs) = more (signed-numeral v) (all-signed vs)

-- a line is its word and what stands behind it
line-rest : (word : List ℕ) (ws : List (List ℕ)) → line_of word ws ≡ word ++ rest_of_line ws
unfolding line_of rest_of_line
line-rest word [] = refl
line-rest word (w ∷ ws) = append_assoc word (ascii " ") _ ∙ ap (λ bytes. word ++ (ascii " " ++ bytes)) (line-rest w ws)

pub text-append : (a b : List Line) → text_of_all (a ++ b) ≡ text_of_all a ++ text_of_all b
unfolding text_of_all
text-append [] b = refl
text-append (l ∷ a) b = ap (λ bytes. text_of l ++ bytes) (text-append a b) ∙ sym (append_assoc (text_of l) _ _)

lines-append : {a b : List ℕ} → LineSequence a → LineSequence b → LineSequence (a ++ b)
lines-append LineSequence.none h = h
lines-append (LineSequence.line {l} {ls} x xs) h = subst LineSequence (sym (append_assoc l ls _)) (LineSequence.line x (lines-append xs h))

one_line : (l : Line) → ReplyLine (text_of l) → LineSequence (text_of_all (l ∷ []))
unfolding text_of_all
one_line l h = LineSequence.line h LineSequence.none

reported : (r : Reply) (vs : List ℤ) → LineSequence (text_of_all (reported_lines r vs))
unfolding reported_lines text_of text_of_all
reported replies.Done vs = LineSequence.none
reported replies.Waits vs = LineSequence.none
reported (replies.Published v) vs =
    one_line (publish v) (subst ReplyLine (sym (line-rest _ _)) (ReplyLine.publish (signed-numeral v)))
reported (replies.Called h s n) vs =
    one_line (call h s (take n vs))
    (subst ReplyLine (sym (line-rest _ _)) (ReplyLine.call (decimal-numeral h) (decimal-numeral s) (all-signed (take n vs))))
reported (replies.Refused r) vs = one_line (refused _) (subst ReplyLine (sym (line-rest _ _)) (ReplyLine.refused (decimal-numeral _)))

module _ (lim : Limits) (d : Dag) where
  called : (m : Machine) (cs : List Call) → LineSequence (text_of_all (call_lines lim d m cs))
  unfolding call_lines text_of_all
  called m [] = LineSequence.none
  called m (c ∷ cs) =
      let o = outcome_of runner lim d m c in
      subst LineSequence (sym (text-append (reported_lines o.reply o.values) _))
      (lines-append (reported o.reply o.values) (called o.machine cs))

  -- how a run ends: the lines of a refused step, or a notice
  record Ending (bytes : List ℕ) : Type 0 where
    ls : List ℕ
    notice : List ℕ
    is-lines : LineSequence ls
    is-notice : OneNotice notice
    both : bytes ≡ ls ++ notice

  ending : {most : ℕ} {m : Machine} {steps bytes : ℕ} {before : List Line} → Ends lim d most m steps bytes before
      → Ending (text_of_all before)
  unfolding text_of_all text_of line_of ascii
  ending {m = m} (Ends.refused q l e) =
      record { ls = _; notice = []; is-lines = called m _; is-notice = OneNotice.none; both = sym (append-nil _) }
  ending (Ends.limited q e) = record { ls = []; notice = _; is-lines = LineSequence.none; is-notice = OneNotice.limit; both = refl }
  ending (Ends.shortened q l h) = record { ls = []; notice = _; is-lines = LineSequence.none; is-notice = OneNotice.short; both = refl }
  ending (Ends.finished q e) = record { ls = []; notice = []; is-lines = LineSequence.none; is-notice = OneNotice.none; both = refl }

  end-text : (n : ℕ) → text_of_all (end n ∷ []) ≡ ascii "end" ++ rest_of_line (decimal n ∷ [])
  unfolding text_of_all text_of
  end-text n = append-nil _ ∙ line-rest _ _

  printed : {most : ℕ} {m : Machine} {bytes : List ℕ} {lines : List Line} → Printed lim d most m bytes lines
      → WholeOutput (text_of_all lines)
  printed {m = m} {lines = lines} p = go (ending p.ends)
    where
      n : ℕ
      n = accepted_steps lim d m p.calls

      first : List ℕ
      first = text_of_all (call_lines lim d m p.calls)

      go : Ending (text_of_all p.before) → WholeOutput (text_of_all lines)
      go e =
          subst WholeOutput (sym text) (WholeOutput.run (lines-append (called m p.calls) e.is-lines) e.is-notice
          (decimal-numeral n))
        where
          last : List ℕ
          last = ascii "end" ++ rest_of_line (decimal n ∷ [])

          text : text_of_all lines ≡ (first ++ e.ls) ++ (e.notice ++ last)
          text =
              ap text_of_all p.prints
              ∙ text-append (call_lines lim d m p.calls) _
              ∙ ap (λ bytes. first ++ bytes)
              (text-append p.before _
              ∙ ap (λ bytes. text_of_all p.before ++ bytes) (end-text n)
              ∙ ap (λ bytes. bytes ++ last) e.both
              ∙ append_assoc e.ls e.notice last)
              ∙ sym (append_assoc first e.ls _)

-- "else the line `long` only"
long-output : WholeOutput (text_of_all (Line.long ∷ []))
unfolding text_of_all text_of line_of ascii
long-output = WholeOutput.long

table-output : (n e : ℕ) → WholeOutput (text_of_all (Line.table n e ∷ []))
unfolding text_of_all text_of
table-output n e =
    subst WholeOutput (sym (append-nil _ ∙ line-rest _ _)) (WholeOutput.table (decimal-numeral n) (decimal-numeral e))

-- what the program prints, whatever stands on its input
pub orcrun-output : (input : List ℕ) → WholeOutput (orcrun input)
orcrun-output input = go (dec_lt 65536 (length input)) (read_table (take (table_length input) input)) refl
  where
    go : Dec (65536 < length input) → (r : Answer) → read_table (take (table_length input) input) ≡ r → WholeOutput (orcrun input)
    go (yes l) r e = subst WholeOutput (sym (orcrun-long input l)) long-output
    go (no l) (declined n at) e = subst WholeOutput (sym (orcrun-declines input n at (omega arith) e)) (table-output n at)
    go (no l) (accepted p) e =
        let x = orcrun-prints input p (omega arith) e in subst WholeOutput (sym x.2) (printed paper (construct p) x.1)
