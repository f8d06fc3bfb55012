pub mod NodeValues
pub mod RecordBytes
pub mod Agreeing
pub mod LaterValues
pub mod FilledTables
pub mod FilledRecords
pub mod FilledTrees
