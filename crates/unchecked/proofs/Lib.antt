-- Laws of the calls that do not test again.
pub mod AnswerUnknown
pub mod WholeCall
pub mod ClockCall
pub mod CalleeMarks
