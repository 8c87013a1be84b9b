pub mod SignCopies
