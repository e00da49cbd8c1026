pub mod Lines
mod AccessRows
pub mod Agreement
pub mod Chains
pub mod Closed
pub mod Composition
mod ConversionRows
mod DescriptorRows
pub mod FrozenThings
pub mod OnHeap
pub mod Growth
pub mod OwnKeys
mod LedgerRows
pub mod Others
pub mod Orderly
mod ProgramRows
mod PromiseRows
pub mod PropertiesKeep
pub mod Prototypes
pub mod RunsKeep
pub mod KindsLast
pub mod KindedObjects
pub mod KindedDeeds
pub mod KindedWorlds
pub mod KindedReplies
mod Samples
mod BootRows
mod ModuleGraphRows
mod StoreRows
pub mod TwoLedgers
mod WellFormedRows
mod KindedRows
pub mod WellFormedRuns
pub mod WithinRoom
pub mod WellFormedStores
pub mod Parts
pub mod Acting
pub mod ReadsRelated
pub mod WritesRelated
pub mod JobsRelated
pub mod Diagonal
pub mod Stand
pub mod MoreNames
pub mod RunsRelated
pub mod RecordsRelated
pub mod RepliesRelated
pub mod WorldsRelated
pub mod DeedsRelated
pub mod MethodsRelated
pub mod AppliesRelated
pub mod OperationsRelated
pub mod SameOutput
pub mod Starts
pub mod Example
mod EdgeRows
pub mod OperatorsRelated
pub mod ReferencesRelated
pub mod CallingRelated
pub mod Units
pub mod HostRelated
pub mod MakingRelated
mod MessageRows
mod OperatorRows
mod CallRows
mod MakingRows
mod ReferenceRows
pub mod CallingLaws
pub mod OperateRelated
mod OperateRows
pub mod HostLaws
