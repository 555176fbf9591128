pub mod OnSuite
