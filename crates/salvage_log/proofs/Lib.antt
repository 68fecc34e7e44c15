pub mod ByBlocks
