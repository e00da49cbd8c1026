pub mod Samples
mod EvaluationRows
mod FunctionRows
mod StatementRows
mod StopLaws
mod ThinRows
