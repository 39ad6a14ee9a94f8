pub mod TableTests
