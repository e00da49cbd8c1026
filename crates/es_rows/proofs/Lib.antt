pub mod ArgumentsRelated
pub mod PositionsRelated
pub mod TextUnits
pub mod ArrayLikesRelated
pub mod KeysRelated
pub mod ObjectsRelated
pub mod FunctionsRelated
pub mod PromisesRelated
pub mod NumbersRelated
pub mod RealmLaws
pub mod StringRelated
pub mod ArrayCallbacksRelated
pub mod ArrayReadsRelated
pub mod ArrayWritesRelated
pub mod ArrayRelated
pub mod BuiltInsRelated
mod Samples
mod RealmRows
mod ObjectRows
mod FunctionRows
mod NumberRows
mod PromiseRows
mod StringRows
mod ArrayRows
