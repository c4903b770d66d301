-- Laws that the compiler's proofs share, from the dag's words to whole expressions.
pub mod StoreLaws
pub mod CallPlaces
pub mod CallNode
pub mod PlanLaws
pub mod JoinLaws
pub mod ExpressionHeads
pub mod ExpressionTaking
pub mod ExpressionNode
pub mod ExpressionJoin
pub mod BodySink
