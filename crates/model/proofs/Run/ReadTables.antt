-- The programs of the worked examples are such as tables hold: the reader reads each from its own table, by computation. Assumes nothing.
use mathlib.Core.Path.{◌≡◌, refl}
use mathlib.Core.List.{List, [], ◌∷◌}
use Rattle.job.specs.Test.{All, none, more}
use Rattle.job.specs.Syntax.{Program}
use Rattle.job.specs.Encode.{encode}
use Rattle.job.specs.Read.{read_table, accepted}
use Rattle.model.proofs.Run.Computing.{computing}
use Rattle.calculus.proofs.Meaning.{further-out, two-binders, calls-itself}
use Rattle.calculus.proofs.Programs.{nothing, one-signal, nothing-passed, nothing-awaited, one_value, largest-sum, overflow}
use Rattle.calculus.proofs.Programs.{every_value, first-value, first-answer, pass_on, one-suspended, mail-each, mail-once}
use Rattle.calculus.proofs.Programs.{fork-join, timeout, parallel-or, metronome, not-strict, same_number, never_ends, ever-deeper}
use Rattle.calculus.proofs.Programs.{no-wait, wait-five, wait-negative, wait-to-the-end, wait-past-the-end, deadline}

abbrev pub marked : List Program
marked =
    nothing
    ∷ one-signal
    ∷ nothing-passed
    ∷ nothing-awaited
    ∷ largest-sum
    ∷ overflow
    ∷ every_value
    ∷ first-value
    ∷ first-answer
    ∷ never_ends
    ∷ ever-deeper
    ∷ []

abbrev pub others : List Program
others =
    one_value
    ∷ pass_on
    ∷ one-suspended
    ∷ mail-each
    ∷ mail-once
    ∷ fork-join
    ∷ timeout
    ∷ parallel-or
    ∷ metronome
    ∷ not-strict
    ∷ same_number
    ∷ further-out
    ∷ two-binders
    ∷ calls-itself
    ∷ []

-- those that call rwait
abbrev pub waits : List Program
waits = no-wait ∷ wait-five ∷ wait-negative ∷ wait-to-the-end ∷ wait-past-the-end ∷ deadline ∷ []

pub marked-read : All (λ (p : Program). read_table (encode p) ≡ accepted p) marked
unfolding computing
marked-read =
    more refl
    (more refl (more refl (more refl (more refl (more refl (more refl (more refl (more refl (more refl (more refl none))))))))))

pub others-read : All (λ (p : Program). read_table (encode p) ≡ accepted p) others
unfolding computing
others-read =
    more refl
    (more refl
    (more refl
    (more refl
    (more refl (more refl (more refl (more refl (more refl (more refl (more refl (more refl (more refl (more refl none)))))))))))))

pub waits-read : All (λ (p : Program). read_table (encode p) ≡ accepted p) waits
unfolding computing
waits-read = more refl (more refl (more refl (more refl (more refl (more refl none)))))
